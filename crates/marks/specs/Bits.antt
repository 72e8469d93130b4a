-- A set of the numbers 1 to w, held in a number below 2 ^ w: n is in the set where binary digit n - 1 is 1. The width w is 8 or 64.
-- It stands for "A set of states or stages is kept as marks on the numbers 1 to 8" of paper 01, and for "chosen set held as a u64 of
-- marks; n by count of ones". Assumes nothing.
use Rattle.std.specs.Prelude.{ℕ, zero, suc, ◌+◌, ◌-◌, ◌/◌, ◌%◌, ◌^◌, Bool, false, leb, ltb, eqb}
use Rattle.std.specs.Int.Bits.{bit_or}
use Rattle.lists.specs.Tests.{pick}

-- is n one of 1 to w?
abbrev pub within : ℕ → ℕ → Bool
within w zero = false
within w (suc k) = leb (suc k) w

-- digit k
abbrev pub bit_at : ℕ → ℕ → Bool
bit_at x k = eqb (x / 2 ^ k % 2) 1

-- the number with digit k set
abbrev pub set_bit : ℕ → ℕ → ℕ
set_bit x k = bit_or x (2 ^ k)

-- is n in the set?
unfoldable pub has_mark : ℕ → ℕ → Bool
has_mark x zero = false
has_mark x (suc k) = bit_at x k

-- are all of its numbers from 1 to n?
abbrev pub up_to : ℕ → ℕ → Bool
up_to n x = ltb x (2 ^ n)

-- the set with n in it; a number outside 1 to w changes nothing
unfoldable pub with_mark : ℕ → ℕ → ℕ → ℕ
with_mark w x n = pick (within w n) (set_bit x (n - 1)) x

-- how many of the numbers 1 to n pass the test p
unfoldable pub size_to : (ℕ → Bool) → ℕ → ℕ
size_to p zero = 0
size_to p (suc n) = size_to p n + pick (p (suc n)) 1 0

-- how many of the numbers 1 to w are in the set
unfoldable pub size : ℕ → ℕ → ℕ
unfolding size_to has_mark
size w x = size_to (has_mark x) w
