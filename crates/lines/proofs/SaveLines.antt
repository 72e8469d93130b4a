-- The lines of a save: they are those of its changes, each short, read back, and with no padding. Assumes nothing.
use Prim.Native.Nat.{ℕ, ◌≤◌}
use mathlib.Core.Path.{◌≡◌, refl, sym, ap, ◌∙◌}
use mathlib.Core.List.{List, [], ◌∷◌, ◌++◌, map, append_assoc, append-nil}
use native.Mathlib.Omega.{arith}
use lib.Seq.{append_snoc}
use lib.ListN.{length}
use Rattle.lists.specs.Each as each
use Rattle.lists.specs.Each.{Each}
use Rattle.lists.proofs.Each.{each-imply}
use Rattle.tables.specs.Tables.{Tables}
use Rattle.tables.specs.Limits.{Limits}
use Rattle.lines.specs.declared.SaveForm.{SaveForm}
use Rattle.lines.specs.declared.Change.{Change}
use Rattle.lines.specs.Text.{comma, line_feed, decimal}
use Rattle.lines.specs.Grammar.{line_of}
use Rattle.lines.specs.Padding.{unpadded}
use Rattle.lines.specs.Written.{parted, line, written, change_line}
use Rattle.lines.specs.Saved.{saved, changes_text}
use Rattle.lines.specs.Input.{lines}
use Rattle.lines.specs.ReadBack.{ReadBack, SaveLines}
use Rattle.lines.proofs.Decimal.{decimal-digits}
use Rattle.lines.proofs.Without.{Without, byte, without-append, without-digits, lines-first}
use Rattle.lines.proofs.Padding.{decimal-unpadded}
use Rattle.lines.proofs.Written.{letters-without, line-fields, change-row, written-parses}
use Rattle.lines.proofs.SaveText.{FewDigits, saved-few, saved-same, line-length, weight-few, digits-short, digits-five, save-fits}

-- ---- no line feed in a line
line-without : (ns : List ℕ) {w : List ℕ} → Without line_feed w → Without line_feed (line w ns)
unfolding parted
line-without [] p = p
line-without (n ∷ ns) p = without-append p (byte refl (line-without ns (without-digits line_feed (omega arith) (decimal n) (decimal-digits n))))

written-without : (f : SaveForm) (c : Change) → Without line_feed (written f c)
written-without f c = line-without (line_of f c).values (letters-without line_feed (omega arith) (line_of f c).word (change-row f c).letters)

-- a text, whatever comes after it, is cut into the lines of its changes
pub lines-before : (f : SaveForm) (cs : List Change) (r : List ℕ) → lines (changes_text f cs ++ r) ≡ map (written f) cs ++ lines r
unfolding changes_text
lines-before f [] r = refl
lines-before f (c ∷ cs) r =
    ap lines (append_assoc (change_line f c) (changes_text f cs) r ∙ append_snoc (written f c) line_feed (changes_text f cs ++ r))
    ∙ lines-first (changes_text f cs ++ r) (written-without f c) ∙ ap (λ (ls : List (List ℕ)). written f c ∷ ls) (lines-before f cs r)

text-lines : (f : SaveForm) (cs : List Change) → lines (changes_text f cs) ≡ map (written f) cs
unfolding lines
text-lines f cs = ap lines (sym (append-nil (changes_text f cs))) ∙ lines-before f cs [] ∙ append-nil (map (written f) cs)

-- ---- each line is read back
all-unpadded : (ns : List ℕ) → Each (λ f. unpadded f ≡ f) (map decimal ns)
all-unpadded [] = each.none
all-unpadded (n ∷ ns) = each.more (decimal-unpadded n) (all-unpadded ns)

read_back : (f : SaveForm) (c : Change) → FewDigits f c → ReadBack f c
unfolding FewDigits
read_back f c h =
    let l = line_of f c in
    let r = change-row f c in
    let few : length (written f c) ≤ 80 = omega (arith, line-length l.word h, weight-few h, r.few, r.count) in
    let fields = line-fields l.values (letters-without comma (omega arith) l.word r.letters) in
    record {
      short = omega (arith, few);
      before = record { short = few; digits = rw fields (digits-five h) };
      read = written-parses f c (digits-short h);
      unpadded = rw fields (all-unpadded l.values);
    }

pub save-lines : (f : SaveForm) (t : Tables) → Limits t → SaveLines f t
save-lines f t h = record { fits = save-fits f t h; cut = text-lines f (saved t); back = each-imply (read_back f) (saved-few f t h); same = saved-same f t }
