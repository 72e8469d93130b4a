-- The measure of `put_digits`: the count of digits. Assumes nothing.
use Rattle.page.proofs.rows.+put_digits.Given as goal

abbrev pub decreases-put_digits : goal.decreases-put_digits
decreases-put_digits l = l.count
