-- The version of the C library, for a header and an archive that do not fit to be noticed. Paper 01 asks for none.
-- Assumes nothing.
use Rattle.std.specs.Prelude.{ℕ, ◌+◌, ◌*◌}

abbrev pub version_of : (major minor patch : ℕ) → ℕ
version_of major minor patch = major * 10000 + minor * 100 + patch

-- the minor number goes up with each request that changes what lines and functions there are, what they answer, or the layout
abbrev pub version : ℕ
version = version_of 1 11 0
