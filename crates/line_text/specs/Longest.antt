-- 02, F-4: "a line may have 128 bytes"; 01: "without its line feed". Definitions only.
use Rattle.std.specs.Prelude.{ℕ}

-- In the code `LONGEST_LINE`.
abbrev pub longest_line : ℕ
longest_line = 128
