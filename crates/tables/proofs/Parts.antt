-- The parts of the limits: tables keep the limits exactly if each part does. Assumes nothing.
use Prim.Native.Nat.{◌≤◌}
use mathlib.Core.Path.{◌≡◌}
use mathlib.Core.Bool.{true, ◌&&◌}
use borrow.Author.Tests.{leb-true, le-leb}
use lib.Dec.{leb}
use lib.ListN.{length}
use Rattle.lists.specs.Tests.{every_from}
use Rattle.lists.proofs.Bools.{and_left, and_right}
use Rattle.tables.specs.declared.rule.Sort.TheVariants as sort
use Rattle.tables.specs.Tables.{Sort, Book, Tables, size_for, marks_for, rules_for}
use Rattle.tables.specs.Limits.{size_in, marks_in, range_for, rules_in, sort_in, book_in, budget_in, load_in, most_places, loads_in, limits, Limits}

pub record BookParts (b : Book) : Type 0 where
  pub size : size_in b.states b.stages ≡ true
  pub marks : (k : Sort) → marks_in (size_for b k) (marks_for b k) ≡ true
  pub rules : (k : Sort) → rules_in (range_for b k) (rules_for b k) ≡ true

pub record Parts (t : Tables) : Type 0 where
  pub book : BookParts t.book
  pub few : length t.loads ≤ t.places
  pub loads : every_from load_in 1 t.loads ≡ true
  pub budget : budget_in t.budget ≡ true
  pub places : t.places ≤ most_places

pub book-parts : (b : Book) → book_in b ≡ true → BookParts b
unfolding book_in sort_in
book-parts b h = record {
  size = and_left (size_in b.states b.stages) (sort_in sort.Load b) two;
  marks = λ k. and_left (marks_in (size_for b k) (marks_for b k)) (rules_in (range_for b k) (rules_for b k)) (each k);
  rules = λ k. and_right (marks_in (size_for b k) (marks_for b k)) (rules_in (range_for b k) (rules_for b k)) (each k);
}
  where
    two : size_in b.states b.stages && sort_in sort.Load b ≡ true
    two = and_left (size_in b.states b.stages && sort_in sort.Load b) (sort_in sort.Row b) h

    each : (k : Sort) → sort_in k b ≡ true
    each sort.Load = and_right (size_in b.states b.stages) (sort_in sort.Load b) two
    each sort.Row = and_right (size_in b.states b.stages && sort_in sort.Load b) (sort_in sort.Row b) h

pub book-whole : (b : Book) → BookParts b → book_in b ≡ true
unfolding book_in sort_in
book-whole b p = rw (p.size, p.marks sort.Load, p.rules sort.Load, p.marks sort.Row) (p.rules sort.Row)

pub limits-parts : (t : Tables) → Limits t → Parts t
unfolding limits loads_in
limits-parts t h =
    let few = leb (length t.loads) t.places in
    let inside = every_from load_in 1 t.loads in
    let placed = leb t.places most_places in
    let b = and_left (book_in t.book && (few && inside) && budget_in t.budget) placed h in
    let a = and_left (book_in t.book && (few && inside)) (budget_in t.budget) b in
    let l = and_right (book_in t.book) (few && inside) a in
    record {
      book = book-parts t.book (and_left (book_in t.book) (few && inside) a);
      few = leb-true (length t.loads) t.places (and_left few inside l);
      loads = and_right few inside l;
      budget = and_right (book_in t.book && (few && inside)) (budget_in t.budget) b;
      places = leb-true t.places most_places (and_right (book_in t.book && (few && inside) && budget_in t.budget) placed h);
    }

pub limits-whole : (t : Tables) → Parts t → Limits t
unfolding limits loads_in
limits-whole t p = rw (book-whole t.book p.book, le-leb (length t.loads) t.places p.few, p.loads, p.budget) (le-leb t.places most_places p.places)
