-- `builder::dims_fit` meets its contract: each dimension is below 2 ^ 32. Assumes nothing.
use Rattle.std.proofs.Common.{ℕ, ◌≡◌, List, [], ◌∷◌, ◌&&◌, ltb, refl, ap, ◌∙◌, arith}
use Rattle.std.proofs.lemmas.Bool.Decides.{nat_tests}
use Rattle.std.proofs.lemmas.Iterator.{YieldsList-from_slice}
use Rattle.std.proofs.lemmas.Iterator.Search.{all_from_yields_List}
use Rattle.std.specs.List.{list_all}
use Rattle.common.specs.Lists.{all_below}
use Rattle.builder.proofs.dims_fit.Goals as goal

as_below : (n : ℕ) (xs : List ℕ) → list_all (λ x. ltb x n) xs ≡ all_below n xs
as_below n [] = refl
as_below n (x ∷ xs) = ap (λ b. ltb x n && b) (as_below n xs)

pub returns : goal.returns
returns c =
    all_from_yields_List (λ x. ltb x 4294967296) _ _ _ c.all.ensures.ran (YieldsList-from_slice c.args.dims.now cc) (λ x b q k. grind (arith, nat_tests))
    ∙ as_below 4294967296 c.args.dims.now
