-- Laws of outlines: what a load and a rule write, and what an outline holds when all are written. Assumes nothing.
use Prim.Native.Nat.{ℕ, zero, suc, ◌+◌, ◌*◌, ◌≤◌, ◌<◌}
use mathlib.Core.Path.{◌≡◌, refl, sym, ap, ◌∙◌, subst}
use mathlib.Core.List.{List}
use mathlib.Core.Logic.{◌⊎◌, inl, inr}
use native.Mathlib.Nat.{eq-or-lt_of_le}
use native.Mathlib.Omega.{arith}
use native.Mathlib.Decide.{dec_le}
use lib.ListN.{length, length-set, get_or, set, replicate, length-replicate}
use lib.Seq.{get_or-set_same, get_or-set_other}
use Rattle.tables.specs.declared.rule.Transition.{Transition}
use Rattle.tables.specs.declared.rule.TransitionList.{TransitionList}
use Rattle.tables.specs.Tables.{no_load, no_rule}
use Rattle.tables.specs.Limits.{max_loads, max_rules, max_worth}
use Rattle.meaning.specs.Forest.{after}
use Rattle.meaning.specs.Cell.{power_limit}
use Rattle.meaning.specs.Cells.{load_at, next_sibling}
use Rattle.meaning.proofs.Tree.{after-end, after-here, after-skip}
use Rattle.cells.specs.declared.problem.Problem.{Problem}
use Rattle.cells.specs.declared.problem.StoredItem.{StoredItem}
use Rattle.cells.specs.Problem.{loads_for, items_for, item_of, shape_of, LoadsIn, Lawful}
use Rattle.cells.specs.Outline.{load_numbers, load_place, child_in, sibling_in, item_in, rule_numbers, load_rules_at, row_rules_at, counts_at, outline_size, rule_in, with_load, with_rule, LoadsPut, RulesPut, Outlines}
use Rattle.cells.proofs.Tables.{loads-length}

-- the zeros at the start
pub zeros-long : (o : List ℕ) → o ≡ replicate outline_size 0 → length o ≡ outline_size
zeros-long o e = ap (λ (x : List ℕ). length x) e ∙ length-replicate {A = ℕ} outline_size 0

-- an item and a rule of four numbers
abbrev item : (power worth mark kind : ℕ) → StoredItem
item a b c d = record { power = a; worth = b; mark = c; kind = d }

abbrev rule : (from label to kind : ℕ) → Transition
rule a b c d = record { from = a; label = b; to = c; kind = d }

four_same : {A : Type 0} (f : ℕ → ℕ → ℕ → ℕ → A) {a b c d x y z w : ℕ} → a ≡ x → b ≡ y → c ≡ z → d ≡ w → f a b c d ≡ f x y z w
four_same f p q r s = cc

-- the figures of an item are in range
abbrev Small : StoredItem → Type 0
Small i = (i.power < power_limit) × (i.worth ≤ max_worth)

-- ---- a load is written
module _ (o : List ℕ) (k q : ℕ) (i : StoredItem) where
  -- the outline after each write
  abbrev one : List ℕ
  one = set o (load_place k + 1) (child_in o q)

  abbrev two : List ℕ
  two = set one (load_place k + 2) i.power

  abbrev three : List ℕ
  three = set two (load_place k + 3) i.worth

  abbrev four : List ℕ
  four = set three (load_place k + 4) i.mark

  abbrev five : List ℕ
  five = set four (load_place k + 5) i.kind

  -- a place that is left as it is
  load-other : (m : ℕ) → (load_place k < m → m < load_place k + load_numbers → ⊥) → (m ≡ load_place q → ⊥) → get_or (with_load o k q i) m 0 ≡ get_or o m 0
  load-other m h n =
      get_or-set_other five (load_place q) m k 0 n
      ∙ get_or-set_other four (load_place k + 5) m i.kind 0 (λ e. h (omega arith) (omega arith))
      ∙ get_or-set_other three (load_place k + 4) m i.mark 0 (λ e. h (omega arith) (omega arith))
      ∙ get_or-set_other two (load_place k + 3) m i.worth 0 (λ e. h (omega arith) (omega arith))
      ∙ get_or-set_other one (load_place k + 2) m i.power 0 (λ e. h (omega arith) (omega arith))
      ∙ get_or-set_other o (load_place k + 1) m (child_in o q) 0 (λ e. h (omega arith) (omega arith))

  -- a number of the load is kept by the later writes
  kept-five : (a : ℕ) → 0 < a → a < 6 → get_or (with_load o k q i) (load_place k + a) 0 ≡ get_or five (load_place k + a) 0
  kept-five a h l = get_or-set_other five (load_place q) (load_place k + a) k 0 (λ e. absurd (omega arith))

  kept-four : (a : ℕ) → 0 < a → a < 5 → get_or (with_load o k q i) (load_place k + a) 0 ≡ get_or four (load_place k + a) 0
  kept-four a h l = kept-five a h (omega arith) ∙ get_or-set_other four (load_place k + 5) (load_place k + a) i.kind 0 (λ e. absurd (omega arith))

  kept-three : (a : ℕ) → 0 < a → a < 4 → get_or (with_load o k q i) (load_place k + a) 0 ≡ get_or three (load_place k + a) 0
  kept-three a h l = kept-four a h (omega arith) ∙ get_or-set_other three (load_place k + 4) (load_place k + a) i.mark 0 (λ e. absurd (omega arith))

  kept-two : (a : ℕ) → 0 < a → a < 3 → get_or (with_load o k q i) (load_place k + a) 0 ≡ get_or two (load_place k + a) 0
  kept-two a h l = kept-three a h (omega arith) ∙ get_or-set_other two (load_place k + 3) (load_place k + a) i.worth 0 (λ e. absurd (omega arith))

  kept-one : (a : ℕ) → 0 < a → a < 2 → get_or (with_load o k q i) (load_place k + a) 0 ≡ get_or one (load_place k + a) 0
  kept-one a h l = kept-two a h (omega arith) ∙ get_or-set_other one (load_place k + 2) (load_place k + a) i.power 0 (λ e. absurd (omega arith))

  module _ (long : length o ≡ outline_size) (h : k ≤ max_loads) (n : q ≤ max_loads) where
    load-child : child_in (with_load o k q i) q ≡ k
    load-child = get_or-set_same five (load_place q) k 0 (simp length-set (omega arith))

    load-kind : get_or (with_load o k q i) (load_place k + 5) 0 ≡ i.kind
    load-kind = kept-five 5 (omega arith) (omega arith) ∙ get_or-set_same four (load_place k + 5) i.kind 0 (simp length-set (omega arith))

    load-mark : get_or (with_load o k q i) (load_place k + 4) 0 ≡ i.mark
    load-mark = kept-four 4 (omega arith) (omega arith) ∙ get_or-set_same three (load_place k + 4) i.mark 0 (simp length-set (omega arith))

    load-worth : get_or (with_load o k q i) (load_place k + 3) 0 ≡ i.worth
    load-worth = kept-three 3 (omega arith) (omega arith) ∙ get_or-set_same two (load_place k + 3) i.worth 0 (simp length-set (omega arith))

    load-power : get_or (with_load o k q i) (load_place k + 2) 0 ≡ i.power
    load-power = kept-two 2 (omega arith) (omega arith) ∙ get_or-set_same one (load_place k + 2) i.power 0 (simp length-set (omega arith))

    load-sibling : sibling_in (with_load o k q i) k ≡ child_in o q
    load-sibling = kept-one 1 (omega arith) (omega arith) ∙ get_or-set_same o (load_place k + 1) (child_in o q) 0 (omega arith)

    load-item : item_in (with_load o k q i) k ≡ i
    load-item = four_same item load-power load-worth load-mark load-kind

-- ---- a rule is written
module _ (o : List ℕ) (at : ℕ) (r : Transition) where
  -- the outline after each write
  abbrev first : List ℕ
  first = set o at r.from

  abbrev second : List ℕ
  second = set first (at + 1) r.label

  abbrev third : List ℕ
  third = set second (at + 2) r.to

  rule-other : (m : ℕ) → (at ≤ m → m < at + rule_numbers → ⊥) → get_or (with_rule o at r) m 0 ≡ get_or o m 0
  rule-other m h =
      get_or-set_other third (at + 3) m r.kind 0 (λ e. h (omega arith) (omega arith))
      ∙ get_or-set_other second (at + 2) m r.to 0 (λ e. h (omega arith) (omega arith))
      ∙ get_or-set_other first (at + 1) m r.label 0 (λ e. h (omega arith) (omega arith))
      ∙ get_or-set_other o at m r.from 0 (λ e. h (omega arith) (omega arith))

  -- a number of the rule is kept by the later writes
  kept-third : (m : ℕ) → m < at + 3 → get_or (with_rule o at r) m 0 ≡ get_or third m 0
  kept-third m h = get_or-set_other third (at + 3) m r.kind 0 (λ e. absurd (omega arith))

  kept_second : (m : ℕ) → m < at + 2 → get_or (with_rule o at r) m 0 ≡ get_or second m 0
  kept_second m h = kept-third m (omega arith) ∙ get_or-set_other second (at + 2) m r.to 0 (λ e. absurd (omega arith))

  kept-first : (m : ℕ) → m < at + 1 → get_or (with_rule o at r) m 0 ≡ get_or first m 0
  kept-first m h = kept_second m (omega arith) ∙ get_or-set_other first (at + 1) m r.label 0 (λ e. absurd (omega arith))

  module _ (room : at + rule_numbers ≤ length o) where
    rule-kind : get_or (with_rule o at r) (at + 3) 0 ≡ r.kind
    rule-kind = get_or-set_same third (at + 3) r.kind 0 (simp length-set (omega arith))

    rule-to : get_or (with_rule o at r) (at + 2) 0 ≡ r.to
    rule-to = kept-third (at + 2) (omega arith) ∙ get_or-set_same second (at + 2) r.to 0 (simp length-set (omega arith))

    rule-label : get_or (with_rule o at r) (at + 1) 0 ≡ r.label
    rule-label = kept_second (at + 1) (omega arith) ∙ get_or-set_same first (at + 1) r.label 0 (simp length-set (omega arith))

    rule-from : get_or (with_rule o at r) at 0 ≡ r.from
    rule-from = kept-first at (omega arith) ∙ get_or-set_same o at r.from 0 (omega arith)

rule-here : (o : List ℕ) (at j : ℕ) (r : Transition) → at + rule_numbers * j + rule_numbers ≤ length o → rule_in (with_rule o (at + rule_numbers * j) r) at j ≡ r
rule-here o at j r h =
    let i = at + rule_numbers * j in
    four_same rule (rule-from o i r h) (rule-label o i r h) (rule-to o i r h) (rule-kind o i r h)

-- ---- the loads are written, from last to first
module _ (p : Problem) (ok : LoadsIn p.tables.loads) (few : p.tables.loads.count ≤ max_loads) where
  size : length (loads_for p) ≡ p.tables.loads.count
  size = loads-length p.tables.loads (omega (arith, ok.full))

  -- none yet
  pub loads-none : (z : List ℕ) → ((m : ℕ) → get_or z m 0 ≡ 0) → LoadsPut p z p.tables.loads.count z
  loads-none z h = record {
    links = λ q l. h (load_place q) ∙ sym (after-end (loads_for p) p.tables.loads.count q (omega (arith, size)));
    sibling = λ k l m. absurd (omega arith);
    item = λ k l m. absurd (omega arith);
    figures = λ k l m. absurd (omega arith);
    other = λ m l. refl;
  }

  -- one more
  module _ {z o : List ℕ} (j : ℕ) (long : length o ≡ outline_size) (put : LoadsPut p z (suc j) o) (low : j < p.tables.loads.count)
      (i : StoredItem) (e : item_of i ≡ items_for p (suc j) (load_at (loads_for p) (suc j))) (a : i.power < power_limit) (b : i.worth ≤ max_worth) where
    abbrev parent : ℕ
    parent = (get_or (loads_for p) j no_load).parent

    abbrev next : List ℕ
    next = with_load o (suc j) parent i

    under : parent ≤ j
    under = ok.parents j

    link_here : child_in next parent ≡ after (loads_for p) j parent
    link_here = load-child o (suc j) parent i long (omega arith) (omega (arith, under)) ∙ sym (after-here (loads_for p) j parent (omega (arith, size)) refl)

    link-other : (q : ℕ) → q ≤ max_loads → (parent ≡ q → ⊥) → child_in next q ≡ after (loads_for p) j q
    link-other q l n =
        load-other o (suc j) parent i (load_place q) (λ u v. absurd (omega arith)) (λ u. n (omega arith))
        ∙ put.links q l
        ∙ sym (after-skip (loads_for p) j q (omega (arith, size)) n)

    links : (q : ℕ) → q ≤ max_loads → Dec (q ≤ parent) → Dec (parent ≤ q) → child_in next q ≡ after (loads_for p) j q
    links q l (yes f) (yes g) = let same : q ≡ parent = omega arith in rw same link_here
    links q l (yes f) (no g) = link-other q l (λ u. absurd (omega arith))
    links q l (no f) g = link-other q l (λ u. absurd (omega arith))

    sibling : (k : ℕ) → k ≤ p.tables.loads.count → (suc j ≡ k) ⊎ (suc j < k) → sibling_in next k ≡ next_sibling (loads_for p) k
    sibling k l (inl s) =
        subst (λ x. sibling_in next x ≡ next_sibling (loads_for p) x) s
        (load-sibling o (suc j) parent i long (omega arith) (omega (arith, under)) ∙ put.links parent (omega (arith, under)))
    sibling k l (inr m) =
        load-other o (suc j) parent i (load_place k + 1) (λ u v. absurd (omega arith)) (λ u. absurd (omega arith)) ∙ put.sibling k m l

    item-here : item_in next (suc j) ≡ i
    item-here = load-item o (suc j) parent i long (omega arith) (omega (arith, under))

    item-other : (k : ℕ) → suc j < k → item_in next k ≡ item_in o k
    item-other k l =
        four_same item (kept 2 (omega arith) (omega arith)) (kept 3 (omega arith) (omega arith)) (kept 4 (omega arith) (omega arith)) (kept 5 (omega arith) (omega arith))
      where
        kept : (a : ℕ) → 0 < a → a < load_numbers → get_or next (load_place k + a) 0 ≡ get_or o (load_place k + a) 0
        kept a h n = load-other o (suc j) parent i (load_place k + a) (λ u v. absurd (omega arith)) (λ u. absurd (omega arith))

    item-of : (k : ℕ) → k ≤ p.tables.loads.count → (suc j ≡ k) ⊎ (suc j < k) → item_of (item_in next k) ≡ items_for p k (load_at (loads_for p) k)
    item-of k l (inl s) = subst (λ x. item_of (item_in next x) ≡ items_for p x (load_at (loads_for p) x)) s (ap item_of item-here ∙ e)
    item-of k l (inr m) = ap item_of (item-other k m) ∙ put.item k m l

    figures : (k : ℕ) → k ≤ p.tables.loads.count → (suc j ≡ k) ⊎ (suc j < k) → Small (item_in next k)
    figures k l (inl s) = subst (λ x. Small (item_in next x)) s (subst Small (sym item-here) (a, b))
    figures k l (inr m) = subst Small (sym (item-other k m)) (put.figures k m l)

    pub loads-more : LoadsPut p z j next
    loads-more = record {
      links = λ q l. links q l (dec_le q parent) (dec_le parent q);
      sibling = λ k l m. sibling k m (eq-or-lt_of_le l);
      item = λ k l m. item-of k m (eq-or-lt_of_le l);
      figures = λ k l m. figures k m (eq-or-lt_of_le l);
      other = λ m l. load-other o (suc j) parent i m (λ u v. absurd (omega arith)) (λ u. absurd (omega (arith, under))) ∙ put.other m l;
    }

-- ---- the rules of one sort are written
pub rules-none : (l : TransitionList) (o : List ℕ) (at : ℕ) → RulesPut l o at 0 o
rules-none l o at = record { rule = λ j h. absurd (omega arith); below = λ m h. refl; above = λ m h. refl }

module _ (l : TransitionList) {o v : List ℕ} {at j : ℕ} (put : RulesPut l o at j v) (room : at + rule_numbers * j + rule_numbers ≤ length v) where
  abbrev r : Transition
  r = get_or l.items j no_rule

  abbrev written : List ℕ
  written = with_rule v (at + rule_numbers * j) r

  rule-of : (i : ℕ) → (i ≡ j) ⊎ (i < j) → rule_in written at i ≡ get_or l.items i no_rule
  rule-of i (inl e) = rw e (rule-here v at j r room)
  rule-of i (inr h) =
      four_same rule (kept (at + rule_numbers * i) (omega arith)) (kept (at + rule_numbers * i + 1) (omega arith)) (kept (at + rule_numbers * i + 2) (omega arith))
      (kept (at + rule_numbers * i + 3) (omega arith))
      ∙ put.rule i h
    where
      kept : (m : ℕ) → m < at + rule_numbers * j → get_or written m 0 ≡ get_or v m 0
      kept m b = rule-other v (at + rule_numbers * j) r m (λ u w. absurd (omega arith))

  pub rules-more : RulesPut l o at (j + 1) written
  rules-more = record {
    rule = λ i h. rule-of i (eq-or-lt_of_le (omega arith));
    below = λ m h. rule-other v (at + rule_numbers * j) r m (λ u w. absurd (omega arith)) ∙ put.below m h;
    above = λ m h. rule-other v (at + rule_numbers * j) r m (λ u w. absurd (omega arith)) ∙ put.above m (omega arith);
  }

-- ---- all is written
-- the first child of load k is the first load whose parent it is: the loads up to k have parents below it
child-first : (p : Problem) → LoadsIn p.tables.loads → (k j : ℕ) → j ≤ k → k ≤ length (loads_for p)
    → after (loads_for p) 0 k ≡ after (loads_for p) j k
child-first p ok k zero h l = refl
child-first p ok k (suc j) h l =
    child-first p ok k j (omega arith) l ∙ after-skip (loads_for p) j k (omega arith) (λ e. absurd (omega (arith, ok.parents j)))

-- the numbers before the counts are left as they are when these are written
module _ (o : List ℕ) (n m : ℕ) where
  abbrev counted : List ℕ
  counted = set (set o counts_at n) (counts_at + 1) m

  counted-other : (i : ℕ) → i < counts_at → get_or counted i 0 ≡ get_or o i 0
  counted-other i h =
      get_or-set_other (set o counts_at n) (counts_at + 1) i m 0 (λ e. absurd (omega arith)) ∙ get_or-set_other o counts_at i n 0 (λ e. absurd (omega arith))

  module _ (long : length o ≡ outline_size) where
    count-first : get_or counted counts_at 0 ≡ n
    count-first =
        get_or-set_other (set o counts_at n) (counts_at + 1) counts_at m 0 (λ e. absurd (omega arith))
        ∙ get_or-set_same o counts_at n 0 (omega arith)

    count-second : get_or counted (counts_at + 1) 0 ≡ m
    count-second = get_or-set_same (set o counts_at n) (counts_at + 1) m 0 (simp length-set (omega arith))

module _ (p : Problem) (ok : Lawful p) {z o v w : List ℕ} (put : LoadsPut p z 0 o)
    (rules : RulesPut p.tables.book.load_rules o load_rules_at p.tables.book.load_rules.count v)
    (rows : RulesPut p.tables.book.row_rules v row_rules_at p.tables.book.row_rules.count w)
    (long : length w ≡ outline_size) where
  abbrev whole : List ℕ
  whole = counted w p.tables.book.load_rules.count p.tables.book.row_rules.count

  -- a number of a load, one of a load rule, and one of a row rule
  of-load : (m : ℕ) → m < load_rules_at → get_or whole m 0 ≡ get_or o m 0
  of-load m h = counted-other w _ _ m (omega arith) ∙ rows.below m (omega arith) ∙ rules.below m h

  of-rule : (m : ℕ) → m < row_rules_at → get_or whole m 0 ≡ get_or v m 0
  of-rule m h = counted-other w _ _ m (omega arith) ∙ rows.below m h

  of_row : (m : ℕ) → m < counts_at → get_or whole m 0 ≡ get_or w m 0
  of_row m h = counted-other w _ _ m h

  item-kept : (k : ℕ) → k ≤ max_loads → item_in whole k ≡ item_in o k
  item-kept k h =
      four_same item (of-load (load_place k + 2) (omega arith)) (of-load (load_place k + 3) (omega arith)) (of-load (load_place k + 4) (omega arith))
      (of-load (load_place k + 5) (omega arith))

  rule-kept : (j : ℕ) → j < max_rules → rule_in whole load_rules_at j ≡ rule_in v load_rules_at j
  rule-kept j h =
      let i = load_rules_at + rule_numbers * j in
      four_same rule (of-rule i (omega arith)) (of-rule (i + 1) (omega arith)) (of-rule (i + 2) (omega arith)) (of-rule (i + 3) (omega arith))

  row_kept : (j : ℕ) → j < max_rules → rule_in whole row_rules_at j ≡ rule_in w row_rules_at j
  row_kept j h =
      let i = row_rules_at + rule_numbers * j in
      four_same rule (of_row i (omega arith)) (of_row (i + 1) (omega arith)) (of_row (i + 2) (omega arith)) (of_row (i + 3) (omega arith))

  pub outline-whole : Outlines p (shape_of p) whole
  outline-whole = record {
    lawful = ok;
    shape = refl;
    long = simp length-set long;
    child = λ k h l. of-load (load_place k) (omega (arith, ok.sane.loads)) ∙ put.links k (omega (arith, ok.sane.loads))
        ∙ child-first p ok.loads k k (omega arith) (omega (arith, size p ok.loads ok.sane.loads));
    sibling = λ k h l. of-load (load_place k + 1) (omega (arith, ok.sane.loads)) ∙ put.sibling k h l;
    item = λ k h l. ap item_of (item-kept k (omega (arith, ok.sane.loads))) ∙ put.item k h l;
    figures = λ k h l. subst Small (sym (item-kept k (omega (arith, ok.sane.loads)))) (put.figures k h l);
    rules = record {
      count = count-first w _ _ long;
      rule = λ j h. rule-kept j (omega (arith, ok.rules.few)) ∙ rules.rule j h;
    };
    rows = record {
      count = count-second w _ _ long;
      rule = λ j h. row_kept j (omega (arith, ok.rows.few)) ∙ rows.rule j h;
    };
  }
