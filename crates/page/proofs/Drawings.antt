-- A drawing of any planner: its number exactly in its case, and the page that it leaves. Assumes nothing.
use Prim.Native.Nat.{ℕ, zero, suc, ◌<◌}
use mathlib.Core.Path.{◌≡◌, refl, sym, ap, ◌∙◌}
use mathlib.Core.Bool.{Bool, true, false}
use mathlib.Core.List.{List}
use mathlib.Core.Logic.{inl, inr}
use native.Mathlib.Omega.{arith}
use borrow.Author.Tests.{eqb-true, eqb-false}
use lib.ListN.{length, length-append}
use Rattle.lists.specs.Tests.{every}
use Rattle.lists.proofs.Tests.{every_append}
use Rattle.tables.specs.Operations.{accepted}
use Rattle.meaning.specs.Sets.{worth, power}
use Rattle.meaning.specs.Choice.{shown_set}
use Rattle.runs.specs.Outcome.{Outcome, nothing, no_set, planned, is_nothing, entries_of}
use Rattle.calls.specs.State.{State, StoredState, state_of, keeps}
use Rattle.calls.specs.Rows.{is_load}
use Rattle.calls.proofs.Work.{clash}
use Rattle.page.specs.Rows.{row_bytes, is_ascii, page_bytes, load_row_count, load_rows}
use Rattle.page.specs.Drawing.{first_row, loads_shown, page_of, refusal_of, drawing}
use Rattle.page.specs.Stretch.{is_page}
use Rattle.page.specs.Claims.{NumberRight, DrawingRight}
use Rattle.page.proofs.RowText.{plan-length, no-plan-length, rows-length}
use Rattle.page.proofs.Drawn.{no-page, broken, no-load, no-plan, unrefused}
use Rattle.page.proofs.Pages.{plan-ascii, no-plan-ascii, rows-ascii}

-- ---- the page
module _ (s : State) (k : ℕ) where
  abbrev below : List ℕ
  below = load_rows (loads_shown s.tables s.outcome) (shown_set (entries_of s.outcome)) k load_row_count

  first-length : (o : Outcome) → length (first_row s.tables o) ≡ row_bytes
  first-length nothing = no-plan-length
  first-length no_set = no-plan-length
  first-length (planned es) = plan-length (worth s.tables (shown_set es)) (power s.tables (shown_set es))

  page-length : length (page_of s k) ≡ page_bytes
  unfolding page_of
  page-length =
      omega (
        arith,
        length-append (first_row s.tables s.outcome) below,
        first-length s.outcome,
        rows-length (loads_shown s.tables s.outcome) (shown_set (entries_of s.outcome)) k load_row_count,
      )

  first-ascii : (o : Outcome) → every is_ascii (first_row s.tables o) ≡ true
  first-ascii nothing = no-plan-ascii
  first-ascii no_set = no-plan-ascii
  first-ascii (planned es) = plan-ascii (worth s.tables (shown_set es)) (power s.tables (shown_set es))

  page-ascii : every is_ascii (page_of s k) ≡ true
  unfolding page_of
  page-ascii =
      every_append is_ascii (first_row s.tables s.outcome) below (first-ascii s.outcome)
      (rows-ascii (loads_shown s.tables s.outcome) (shown_set (entries_of s.outcome)) k load_row_count)

-- ---- the number
module _ (p : StoredState) (k : ℕ) (page : List ℕ) where
  abbrev n : ℕ
  n = refusal_of p k (length page)

  -- a test that came out both ways
  split : {b : Bool} → b ≡ true → b ≡ false → ⊥
  split e f = clash (sym e ∙ f)

  no-outcome : {o : Outcome} → o ≡ nothing → is_nothing o ≡ false → ⊥
  no-outcome e f = split (ap is_nothing e) f

  drawn : is_page page ≡ true → keeps p ≡ true → is_load (state_of p).tables k ≡ true → is_nothing (state_of p).outcome ≡ false → NumberRight p k page n
  drawn a b c o =
      let e = unrefused p k (length page) (eqb-true (length page) page_bytes a) b c o in
      record {
        not_a_page = (λ z. absurd (omega (arith, z, e)), λ z. absurd (split a z));
        unusable = (λ z. absurd (omega (arith, z, e)), λ z. absurd (split b z.1));
        out_of_range = (λ z. absurd (omega (arith, z, e)), λ z. absurd (split c z.2));
        no_plan = (λ z. absurd (omega (arith, z, e)), λ z. absurd (no-outcome z.3 o));
        none = (λ z. (a, b, c, o), λ z. sym e);
        others = inl (sym e);
      }

  number : (a : Bool) → is_page page ≡ a → (b : Bool) → keeps p ≡ b → (c : Bool) → is_load (state_of p).tables k ≡ c → (o : Outcome) → (state_of p).outcome ≡ o → NumberRight p k page n
  number false a b' b c' c o' o =
      let e = no-page p k (length page) (eqb-false (length page) page_bytes a) in
      record {
        not_a_page = (λ z. a, λ z. sym e);
        unusable = (λ z. absurd (omega (arith, z, e)), λ z. absurd (split z.0 a));
        out_of_range = (λ z. absurd (omega (arith, z, e)), λ z. absurd (split z.0 a));
        no_plan = (λ z. absurd (omega (arith, z, e)), λ z. absurd (split z.0 a));
        none = (λ z. absurd (omega (arith, z, e)), λ z. absurd (split z.0 a));
        others = inr (inl (sym e));
      }
  number true a false b c' c o' o =
      let e = broken p k (length page) (eqb-true (length page) page_bytes a) b in
      record {
        not_a_page = (λ z. absurd (omega (arith, z, e)), λ z. absurd (split a z));
        unusable = (λ z. (a, b), λ z. sym e);
        out_of_range = (λ z. absurd (omega (arith, z, e)), λ z. absurd (split z.1 b));
        no_plan = (λ z. absurd (omega (arith, z, e)), λ z. absurd (split z.1 b));
        none = (λ z. absurd (omega (arith, z, e)), λ z. absurd (split z.1 b));
        others = inr (inr (inl (sym e)));
      }
  number true a true b false c o' o =
      let e = no-load p k (length page) (eqb-true (length page) page_bytes a) b c in
      record {
        not_a_page = (λ z. absurd (omega (arith, z, e)), λ z. absurd (split a z));
        unusable = (λ z. absurd (omega (arith, z, e)), λ z. absurd (split b z.1));
        out_of_range = (λ z. (a, b, c), λ z. sym e);
        no_plan = (λ z. absurd (omega (arith, z, e)), λ z. absurd (split z.2 c));
        none = (λ z. absurd (omega (arith, z, e)), λ z. absurd (split z.2 c));
        others = inr (inr (inr (inl (sym e))));
      }
  number true a true b true c nothing o =
      let e = no-plan p k (length page) (eqb-true (length page) page_bytes a) b c (ap is_nothing o) in
      record {
        not_a_page = (λ z. absurd (omega (arith, z, e)), λ z. absurd (split a z));
        unusable = (λ z. absurd (omega (arith, z, e)), λ z. absurd (split b z.1));
        out_of_range = (λ z. absurd (omega (arith, z, e)), λ z. absurd (split c z.2));
        no_plan = (λ z. (a, b, c, o), λ z. sym e);
        none = (λ z. absurd (omega (arith, z, e)), λ z. absurd (split (ap is_nothing o) z.3));
        others = inr (inr (inr (inr (sym e))));
      }
  number true a true b true c no_set o = drawn a b c (ap is_nothing o)
  number true a true b true c (planned es) o = drawn a b c (ap is_nothing o)

  number-right : NumberRight p k page n
  number-right = number (is_page page) refl (keeps p) refl (is_load (state_of p).tables k) refl (state_of p).outcome refl

  pub drawing-right : DrawingRight p k page (drawing p k page)
  unfolding drawing
  drawing-right = record {
    number = number-right;
    refused = λ h. old n h;
    drawn = λ z. new n z;
    size = λ z. ap length (new n z) ∙ page-length (state_of p) k;
    ascii = λ z. ap (every is_ascii) (new n z) ∙ page-ascii (state_of p) k;
  }
    where
      old : (m : ℕ) → 0 < m → accepted m (page_of (state_of p) k) page ≡ page
      old zero h = absurd (omega arith)
      old (suc m) h = refl

      new : (m : ℕ) → m ≡ 0 → accepted m (page_of (state_of p) k) page ≡ page_of (state_of p) k
      new zero z = refl
      new (suc m) z = absurd (omega arith)
