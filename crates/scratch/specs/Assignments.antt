-- What document 01 promises of an assignment of slots to wires, whichever it is.
use Rattle.std.specs.Prelude.{true, cond, ◌&&◌, ◌≡◌, List, [], ◌∷◌, map, ℕ, suc, ◌<◌, length, take}
use Rattle.common.specs.Lists.{member}
use Rattle.scratch.specs.Gates.{scratch, mentioned, spans, among}

-- how many numbers a list holds, each counted once
abbrev pub distinct : List ℕ → ℕ
distinct [] = 0
distinct (x ∷ xs) = cond (member x xs) (distinct xs) (suc (distinct xs))

module _ (wires : ℕ) (marks : List ℕ) (gates : List (List ℕ)) (slot : ℕ → ℕ) where
  -- scratch wires whose spans share a gate have slots of their own
  abbrev pub Apart : Type 0
  Apart =
      (k w v : ℕ) → k < length gates → w < wires → v < wires → (scratch marks w && spans gates k w) ≡ true → (scratch marks v && spans gates k v) ≡ true → slot w ≡ slot v → w ≡ v

  -- how many distinct slots the scratch wires have that the first k gates mention
  abbrev pub slots_to : ℕ → ℕ
  slots_to k = distinct (map slot (among (λ w. scratch marks w && mentioned (take k gates) w) 0 wires))
