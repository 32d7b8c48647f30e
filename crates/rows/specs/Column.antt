-- A column of the value array, and a function run on each column of a stripe. Document 01, "Sizes" and "Assertions and reports". Assumes nothing.
use Rattle.std.specs.Prelude.{ℕ, zero, suc, ◌+◌, ◌*◌, ◌/◌, ◌%◌, Bool, cond, ◌&&◌, List, [], ◌∷◌, length, get_or, drop, eqb, ltb, leb}

-- a column: the word of each register
abbrev pub Col : Type 0
Col = ℕ → ℕ

-- ---- where a word lies: row after row. Every definition that reads a register of a column goes through these three

-- the place of register r of column c
abbrev pub place : ℕ → ℕ → ℕ → ℕ
place width r c = r * width + c

-- the register and the column of a place
abbrev pub register_at : ℕ → ℕ → ℕ
register_at width k = k / width

abbrev pub column_at : ℕ → ℕ → ℕ
column_at width k = k % width

-- ---- columns

-- column c of the array: the registers below rows, and 0 from there on
unfoldable pub column : ℕ → ℕ → List ℕ → ℕ → Col
column rows width xs c r = cond (ltb r rows) (get_or xs (place width r c) 0) 0

-- the column with v in register d
unfoldable pub store : Col → ℕ → ℕ → Col
store col d v = λ r. cond (eqb r d) v (col r)

-- the column with a list of words in a list of registers
abbrev pub stores : List ℕ → List ℕ → Col → Col
stores [] vs col = col
stores (d ∷ ds) vs col = stores ds (drop 1 vs) (store col d (get_or vs 0 0))

-- ---- a stripe of columns

abbrev pub in_stripe : ℕ → ℕ → ℕ → Bool
in_stripe first count c = leb first c && ltb c (first + count)

-- the words 0 .. n - 1 of w
unfoldable pub tabulate : ℕ → (ℕ → ℕ) → List ℕ
tabulate zero w = []
tabulate (suc n) w = w 0 ∷ tabulate n (λ k. w (suc k))

-- the array with F run on columns first .. first + count - 1, and every other word as it was
unfoldable pub on_stripe : (Col → Col) → ℕ → ℕ → ℕ → ℕ → List ℕ → List ℕ
on_stripe F rows width first count xs =
    tabulate (length xs)
    (λ k. cond (in_stripe first count (column_at width k)) (F (column rows width xs (column_at width k)) (register_at width k)) (get_or xs k 0))
