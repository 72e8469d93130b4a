-- A number that names nothing in the book makes the answer no: in a run, the numbers of every load name something. Assumes nothing.
use Rattle.tables.specs.Stored.{tables_of}
use Rattle.tables.proofs.Kept.{kept}
use Rattle.meaning.specs.Judge.{own_marks}
use Rattle.meaning.proofs.Named.{run-names}
use Rattle.std.specs.Prelude.{true, Ok}
use Rattle.judge.specs.Verdict.{proposed}
use Rattle.judge.specs.Claims.{YesNames}
use Rattle.judge.proofs.Answers.{answers-exactly}

pub yes-names : YesNames
yes-names s ns e =
    let t = tables_of s in
    let p = (answers-exactly s ns (Ok true)).0 e in
    run-names t (kept s p.0.lawful).lawful (own_marks t.book (proposed ns)) (proposed ns) p.1
