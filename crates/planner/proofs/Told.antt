-- What is told of a result, and what `map` leaves of it: its refusal. Assumes nothing.
use Rattle.std.specs.Prelude.{Result, Ok, Err, MatchResult, IsOkAnd}
use mathlib.Core.Path.{◌≡◌, refl, ap}
use Prim.Native.Nat.{ℕ}
use Rattle.lines.specs.declared.answer.Answer.{Answer}
use Rattle.lines.specs.declared.answer.Answer.TheVariants.{Needed}
use Rattle.lines.specs.Answers.{number_of, numbered}
use Rattle.tables.specs.declared.refusal.Refusal.{Refusal}
use Rattle.tables.specs.Refusals.{number_in}
use Rattle.planner.specs.Decided.{need_answer}

-- the number told of a result is that of its answer
pub numbers : (r : Result Answer Refusal) → number_in r ≡ number_of (numbered r)
numbers (Ok x) = refl
numbers (Err e) = refl

-- `map` keeps the number, whatever it makes of the value
pub told-number : {A B : Type 0} (r : Result A Refusal) (t : Result B Refusal) (P : A → B → Type 0) → MatchResult r (λ x. IsOkAnd t (P x)) (λ e. t ≡ Err e)
    → number_in t ≡ number_of (numbered r)
told-number (Ok x) (Ok y) P h = refl
told-number (Ok x) (Err e) P h = absurd h
told-number (Err e) t P h = ap number_in h

-- a budget becomes the answer that names it
pub needed_is : (r : Result ℕ Refusal) (a : Result Answer Refusal) (P : ℕ → Answer → Type 0) → MatchResult r (λ b. IsOkAnd a (P b)) (λ e. a ≡ Err e)
    → ((b : ℕ) (x : Answer) → P b x → x ≡ Needed b) → a ≡ need_answer r
needed_is (Ok b) (Ok x) P h q = ap Ok (q b x h)
needed_is (Ok b) (Err e) P h q = absurd h
needed_is (Err e) a P h q = h

-- where nothing refuses, the number is 0
pub unrefused : {A : Type 0} (t : Result A Refusal) → ((e : Refusal) → t ≡ Err e → ⊥) → number_in t ≡ 0
unrefused (Ok x) d = refl
unrefused (Err e) d = absurd (d e refl)
