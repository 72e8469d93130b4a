-- What is proved of drawings and stretches: the numbers, what is read off a drawn page after a list of calls, and what a stretch does to the glass.
-- It stands for the sentences of request Six of paper 02. Assumes nothing.
use Rattle.std.specs.Prelude.{ℕ, suc, ◌+◌, ◌*◌, ◌-◌, ◌≤◌, ◌<◌, ◌≡◌, true, false, List, ◌⊎◌, ◌↔◌, length, get_or, take, drop}
use Rattle.std.proofs.lemmas.List.Edits.{sets}
use Rattle.lists.specs.Tests.{every}
use Rattle.lines.specs.Grammar.{is_digit, value}
use Rattle.tables.specs.Refusals as no
use Rattle.tables.specs.Tables.{Tables, no_load}
use Rattle.meaning.specs.Sets.{worth, power, NoneFits}
use Rattle.meaning.specs.Choice.{plan_entries, shown_set}
use Rattle.meaning.specs.Claims.{PlanShown}
use Rattle.runs.specs.Outcome.{nothing, is_nothing}
use Rattle.calls.specs.State.{StoredState, state_of, keeps}
use Rattle.calls.specs.Rows.{is_load}
use Rattle.calls.specs.Last.{current}
use Rattle.calls.specs.Demand3.{Event, paper}
use Rattle.page.specs.Rows.{row_count, row_bytes, page_bytes, load_row_count, is_ascii, worth_digits, power_digits, number_digits, blank_row, no_plan_row, on_off}
use Rattle.page.specs.Drawing.{Drawn, drawn_of, drawing, page_of}
use Rattle.page.specs.Stretch.{row_at, is_page, place, stretch, beginning}

-- ---- a drawing of any planner, whatever it holds
-- the number is 0, or one refusal, each exactly in its case
pub record NumberRight (p : StoredState) (load : ℕ) (page : List ℕ) (n : ℕ) : Type 0 where
  -- "13, a page to draw on not of 160 bytes, tested first"
  pub not_a_page : (n ≡ no.not_a_page) ↔ (is_page page ≡ false)
  -- a planner handed in that breaks a limit
  pub unusable : (n ≡ no.unusable) ↔ ((is_page page ≡ true) × (keeps p ≡ false))
  -- "The load k asked for must exist (5)"
  pub out_of_range : (n ≡ no.out_of_range) ↔ ((is_page page ≡ true) × (keeps p ≡ true) × (is_load (state_of p).tables load ≡ false))
  -- "and the plan must be current (12)"
  pub no_plan : (n ≡ no.no_plan)
      ↔ ((is_page page ≡ true) × (keeps p ≡ true) × (is_load (state_of p).tables load ≡ true) × ((state_of p).outcome ≡ nothing))
  pub none : (n ≡ 0)
      ↔ ((is_page page ≡ true) × (keeps p ≡ true) × (is_load (state_of p).tables load ≡ true) × (is_nothing (state_of p).outcome ≡ false))
  pub others : (n ≡ 0) ⊎ (n ≡ no.not_a_page) ⊎ (n ≡ no.unusable) ⊎ (n ≡ no.out_of_range) ⊎ (n ≡ no.no_plan)

pub record DrawingRight (p : StoredState) (load : ℕ) (page : List ℕ) (d : Drawn) : Type 0 where
  pub number : NumberRight p load page d.number
  -- "A refused drawing leaves its page untouched."
  pub refused : 0 < d.number → d.page ≡ page
  pub drawn : d.number ≡ 0 → d.page ≡ page_of (state_of p) load
  -- "A page is 8 rows of 20 ASCII bytes."
  pub size : d.number ≡ 0 → length d.page ≡ page_bytes
  pub ascii : d.number ≡ 0 → every is_ascii d.page ≡ true

-- ---- what is read off a page: so many bytes of row i from a place on. Rows and places are counted from 0:
--     worth 000070 030W        004 off 007W
--     0     6      13          0   4   8
abbrev pub word_at : List ℕ → (row place count : ℕ) → List ℕ
word_at page i a n = take n (drop a (row_at page i))

-- "Digits are filled with zeros in front": a word of digits alone, and the number that they are
pub record Reads (word : List ℕ) (n : ℕ) : Type 0 where
  pub digits : every is_digit word ≡ true
  pub number : value word ≡ n

-- a row shows load k: "the number in three digits, a blank, `on ` or `off`, a blank, the load's own power, on or off", σ being the set
pub record LoadShown (t : Tables) (σ : ℕ → ℕ) (page : List ℕ) (row k : ℕ) : Type 0 where
  pub number : Reads (word_at page row 0 number_digits) k
  pub mark : word_at page row 4 3 ≡ on_off (σ k)
  pub power : Reads (word_at page row 8 power_digits) (get_or t.loads (k - 1) no_load).power

-- the page of a plan whose set is σ: "Row one is `worth `", six digits with request Ten, "a blank, three digits of power"; "Rows two to eight show
-- loads k to k+6"; "missing loads .. are blank rows"
pub record PlanPage (t : Tables) (σ : ℕ → ℕ) (load : ℕ) (page : List ℕ) : Type 0 where
  pub worth : Reads (word_at page 0 6 worth_digits) (worth t σ)
  pub power : Reads (word_at page 0 13 power_digits) (power t σ)
  pub loads : (i : ℕ) → i < load_row_count → load + i ≤ length t.loads → LoadShown t σ page (suc i) (load + i)
  pub missing : (i : ℕ) → i < load_row_count → length t.loads < load + i → row_at page (suc i) ≡ blank_row

-- the page after refusal 9: "`no plan`"; "all loads after refusal 9, are blank rows"
pub record NoPlanPage (page : List ℕ) : Type 0 where
  pub first : row_at page 0 ≡ no_plan_row
  pub loads : (i : ℕ) → i < load_row_count → row_at page (suc i) ≡ blank_row

-- ---- after a list of calls from a fresh planner with n places for loads: "the plan must be current (12)"; else the page of the paper's plan for
-- the tables that the accepted lines built, the one that `plan` printed
pub record PageRight (n : ℕ) (xs : List Event) (load : ℕ) (page : List ℕ) (d : Drawn) : Type 0 where
  pub old : current false xs ≡ false → d ≡ drawn_of no.no_plan page
  pub drawn : current false xs ≡ true → d.number ≡ 0
  pub shown : current false xs ≡ true → let t = (paper n xs).tables in let es = plan_entries t in
      (PlanShown t es × PlanPage t (shown_set es) load d.page) ⊎ (NoneFits t × NoPlanPage d.page)

-- every drawing of the planner p that they leave, of a load that is there, on a page of 160 bytes
abbrev pub PagesRight : (n : ℕ) → List Event → StoredState → Type 0
PagesRight n xs p = (load : ℕ) (page : List ℕ) → is_page page ≡ true → is_load (paper n xs).tables load ≡ true
    → (d : Drawn) → d ≡ drawing p load page → PageRight n xs load page d

-- ---- a stretch, of any two pages
pub record StretchRight (glass drawn : List ℕ) : Type 0 where
  -- put on the glass where it lies in the drawn page, it makes the glass the drawn page
  pub puts : is_page glass ≡ true → is_page drawn ≡ true → sets glass (place glass drawn).start (stretch glass drawn) ≡ drawn
  -- no rows that do so are fewer
  pub shortest : (i n : ℕ) (rows : List ℕ) → is_page glass ≡ true → is_page drawn ≡ true → length rows ≡ n * row_bytes → i + n ≤ row_count
      → sets glass (i * row_bytes) rows ≡ drawn → length (stretch glass drawn) ≤ length rows
  -- its row, counted from 1, and its count of bytes are those of its place
  pub row : (place glass drawn).start ≡ (beginning glass drawn - 1) * row_bytes
  pub count : length (stretch glass drawn) ≡ (place glass drawn).count
  -- "empty if none differs"; "if either page isn't 160 bytes its stretch is empty"
  pub same : glass ≡ drawn → length (stretch glass drawn) ≡ 0
  pub no_page : (is_page glass ≡ false) ⊎ (is_page drawn ≡ false) → length (stretch glass drawn) ≡ 0
  -- its row is 0, which names none, exactly where it is empty
  pub none : (beginning glass drawn ≡ 0) ↔ (length (stretch glass drawn) ≡ 0)
