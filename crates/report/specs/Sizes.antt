-- Document 01, "Sizes" and "Assertions and reports": what a report's positions and records are bounded by.
use Rattle.std.specs.Prelude.{ℕ, ◌*◌}

-- a batch is at most this wide
abbrev pub max_width : ℕ
max_width = 4096

-- at most this many failures are kept
abbrev pub max_cap : ℕ
max_cap = 256

-- a record is this many words
abbrev pub record_words : ℕ
record_words = 3

-- the words of all the records that can be kept
abbrev pub most_words : ℕ
most_words = max_cap * record_words
