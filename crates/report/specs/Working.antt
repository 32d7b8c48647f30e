-- Working definitions: the state of a run between instructions, which the contracts of inner functions cite. Not part of what is answered.
use Rattle.std.specs.Prelude.{ℕ, ◌*◌, ◌<◌, ◌≡◌, cond, List, [], ◌∷◌, ◌++◌, length, take, ltb, eqb, Option, None, Some}
use Rattle.std.proofs.lemmas.List.Edits.{sets}
use Rattle.report.specs.Sizes.{record_words}
use Rattle.report.specs.Records.{words, words_of, Lowest, clean, at, kept}
use Rattle.report.specs.declared.record.Failure.{Failure}
use Rattle.report.specs.declared.noting.Low.{Low}
use Rattle.report.specs.declared.noting.Noting.{Noting}

-- the column fails once more, and no lower column does
abbrev pub note_at : ℕ → Failure → Lowest → Lowest
note_at k f clean = at k (f ∷ [])
note_at k f (at p fs) = cond (ltb p k) (at p fs) (cond (eqb p k) (at k (fs ++ f ∷ [])) (at k (f ∷ [])))

-- the lowest failing column so far, and how often it failed
abbrev pub low_of : Lowest → Option Low
low_of clean = None
low_of (at p fs) = Some (record { column = p; total = length fs })

abbrev pub Begins : List ℕ → List ℕ → Type 0
Begins ws xs = take (length ws) xs ≡ ws

-- what is noted shows a lowest failing column: its position and total, and its kept records at the array's front
pub record Shows (l : Lowest) (n : Noting) : Type 0 where
  pub state : n.lowest ≡ low_of l
  pub begins : Begins (words (kept n.cap l)) n.records

-- the records with failure number `total` of their column put in, if the cap lets it
abbrev pub pushed : ℕ → ℕ → Failure → List ℕ → List ℕ
pushed cap total f records = cond (ltb total cap) (sets records (total * record_words) (words_of f)) records

-- fewer violations than 65,536
abbrev pub Few : Option Low → Type 0
Few None = Unit {0}
Few (Some low) = low.total < 65536

-- few enough violations to count one more
abbrev pub Small : Noting → Type 0
Small n = Few n.lowest
