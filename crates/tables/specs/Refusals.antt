-- The numbers of the refusals, by name: the table of "Causes and numbers" of paper 01, and the new numbers of paper 02. Assumes nothing.
use Rattle.std.specs.Prelude.{ℕ, zero, suc, Result, Ok, Err}
use Rattle.tables.specs.declared.refusal.Refusal.{Refusal}
use Rattle.tables.specs.declared.refusal.Refusal.TheVariants.{Unusable, TooLong, Broken, NoLoads, OutOfRange, Full, SameRule, TooFewCells, NoneFits, NotAllowed, HasChildren, NoPlan, NotAPage, KindsInUse, TooPoor, NotCarried, ShortList}

-- "fewer free output bytes than needed; place past the end; a planner handed in that breaks a limit"
abbrev pub unusable : ℕ
unusable = 1

-- "line over 80 bytes", 144 with request Ten of paper 02
abbrev pub too_long : ℕ
too_long = 2

-- "no command of the table, wrong field count or form"
abbrev pub broken : ℕ
broken = 3

-- "plan, check or judge with no loads"
abbrev pub no_loads : ℕ
no_loads = 4

-- "value out of its range; bits not one for each load; judge given not three numbers for each load"
abbrev pub out_of_range : ℕ
out_of_range = 5

-- "64 loads or 32 rules of that sort already", 128 loads with request Ten of paper 02
abbrev pub full : ℕ
full = 6

-- "the same rule already in the book"
abbrev pub same_rule : ℕ
same_rule = 7

-- "plan with too few cells"
abbrev pub too_few_cells : ℕ
too_few_cells = 8

-- "no allowed set fits"
abbrev pub none_fits : ℕ
none_fits = 9

-- "checked set not allowed"
abbrev pub not_allowed : ℕ
not_allowed = 10

-- request Three: "11, load k has children"
abbrev pub has_children : ℕ
has_children = 11

-- request Five: "12, no current plan"
abbrev pub no_plan : ℕ
no_plan = 12

-- request Six: "13, a page to draw on not of 160 bytes"
abbrev pub not_a_page : ℕ
not_a_page = 13

-- request Eight: "14, `save1` while some load or load rule has a kind other than 0"
abbrev pub kinds_in_use : ℕ
kinds_in_use = 14

-- request Nine: "15, the plan at the budget in force has worth below v"
abbrev pub too_poor : ℕ
too_poor = 15

-- request Twelve: "16, a set that is over budget or has a load on below one that is off"
abbrev pub not_carried : ℕ
not_carried = 16

-- request Twelve: "17, a list too short"
abbrev pub short_list : ℕ
short_list = 17

-- no refusal of a line has a greater number
abbrev pub greatest : ℕ
greatest = too_poor

-- ---- a refusal by name, and its number
abbrev pub number_of : Refusal → ℕ
number_of Unusable = unusable
number_of TooLong = too_long
number_of Broken = broken
number_of NoLoads = no_loads
number_of OutOfRange = out_of_range
number_of Full = full
number_of SameRule = same_rule
number_of TooFewCells = too_few_cells
number_of NoneFits = none_fits
number_of NotAllowed = not_allowed
number_of HasChildren = has_children
number_of NoPlan = no_plan
number_of NotAPage = not_a_page
number_of KindsInUse = kinds_in_use
number_of TooPoor = too_poor
number_of NotCarried = not_carried
number_of ShortList = short_list

-- what is told of a request: 0 where it is accepted, else the number of its refusal
abbrev pub number_in : {A : Type 0} → Result A Refusal → ℕ
number_in (Ok x) = 0
number_in (Err r) = number_of r

-- the same, with what an accepted one gives
abbrev pub numbered : {A : Type 0} → Result A Refusal → Result A ℕ
numbered (Ok x) = Ok x
numbered (Err r) = Err (number_of r)

-- what is told of a request with this number that gives x where it is accepted
abbrev pub told : {A : Type 0} → (number : ℕ) → A → Result A ℕ
told zero x = Ok x
told (suc n) x = Err (suc n)
