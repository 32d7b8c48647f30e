-- Document 01's AssertZero batch, cut after column 1 and run from the right: what the theorems ask is met, and what they say is what the document says.
-- Besides: a batch can always be cut, and what is handed in can always be joined. Assumes nothing.
use Prim.Native.Nat.{ℕ, ◌+◌, ◌*◌, ◌<◌}
use mathlib.Core.Path.{◌≡◌, refl, sym, ap, ◌∙◌, subst}
use mathlib.Core.List.Permᴰ
use mathlib.Core.List.{List, [], ◌∷◌, ◌++◌, Permᴰ}
use native.Mathlib.Omega.{arith}
use lib.ListN.{length}
use Rattle.bytecode.specs.Instruction.{make}
use Rattle.bytecode.specs.Layout.{word_at, size_as}
use Rattle.bytecode.specs.Encode.{encode}
use Rattle.bytecode.specs.Parse.{read_as, sized, parse}
use Rattle.bytecode.specs.Program.{program_from, program_of}
use Rattle.accept.specs.Check.{accepted, shift_bad_amount, bad_hint, bad_register, judged, walk_from, check_of}
use Rattle.report.specs.Sizes.{record_words}
use Rattle.report.specs.Position.{batch}
use Rattle.report.specs.Records.{lowest}
use Rattle.report.specs.Join.{Tree, none, leaf, both, stands, join_tree}
use Rattle.report.specs.declared.Report.TheVariants as B
use Rattle.rows.specs.Column.{column, store, tabulate, on_stripe}
use Rattle.fill.specs.Meaning.{run_col, violations_from}
use Rattle.fill.specs.Run.{verdict_of, lowest_of, answer_of, values_of, buffer_of}
use Rattle.batch.specs.Cut.{Batch, Share, share, Cut}
use Rattle.batch.specs.Batch.{whole_call, HandedIn, handed, run_refused, raise_refused, handed_in, AllHanded, leaves, read}
use Rattle.batch.specs.Demands.{CutAnyhow, Parcel}
use Rattle.batch.proofs.Demands.{cut_anyhow, parcel}

-- ---- document 01: rows 0 = (0,0,9,0) and 1 = (0,4,0,0), AssertZero 0 path 11, AssertZero 1 path 12, cap 1

abbrev example : Batch
example = record {
  code = encode (make 0x62 [] (0 ∷ []) (11 ∷ [])) ++ encode (make 0x62 [] (1 ∷ []) (12 ∷ []));
  rows = 2;
  width = 4;
  cap = 1;
  values = 0 ∷ 0 ∷ 9 ∷ 0 ∷ 0 ∷ 4 ∷ 0 ∷ 0 ∷ [];
}

abbrev buffer : List ℕ
buffer = 7 ∷ 7 ∷ 7 ∷ []

example_accepted : verdict_of (whole_call example buffer) ≡ accepted
unfolding verdict_of check_of walk_from judged shift_bad_amount bad_hint bad_register parse sized read_as size_as word_at
example_accepted = refl

-- cut after column 1; the right stripe is run first
abbrev shares : List Share
shares = share 2 2 (5 ∷ 5 ∷ 5 ∷ []) ∷ share 0 2 (6 ∷ 6 ∷ 6 ∷ []) ∷ []

example_cut : Cut example shares
example_cut = record { counts = 2 ∷ 2 ∷ []; whole = refl; order = Permᴰ.swap refl refl; roomy = (refl, (refl, tt)) }

pub example_cut_anyhow : CutAnyhow example buffer shares
example_cut_anyhow = cut_anyhow example buffer example_accepted shares example_cut

pub example_parcel : (c : ℕ) → c < 4 → Parcel example buffer c
example_parcel = parcel example buffer example_accepted

-- the right stripe hands in batch position 2, the left one 1, each with its record
abbrev right : HandedIn
right = handed (B.Failing (batch 2) 1 1) (0x620000000000000B ∷ 9 ∷ 0 ∷ [])

abbrev left : HandedIn
left = handed (B.Failing (batch 1) 1 1) (0x620000010000000C ∷ 4 ∷ 0 ∷ [])

example_handed : handed_in example shares example.values ≡ right ∷ left ∷ []
unfolding handed_in answer_of values_of buffer_of lowest_of verdict_of check_of walk_from judged shift_bad_amount bad_hint bad_register parse sized read_as size_as word_at program_of program_from lowest violations_from run_col column store tabulate on_stripe
example_handed = refl

-- joined they answer position 1, total 1 and its record; none at all may stand anywhere
abbrev example_tree : Tree
example_tree = both (leaf (B.Failing (batch 1) 1 1) (0x620000010000000C ∷ 4 ∷ 0 ∷ [])) (both none (leaf (B.Failing (batch 2) 1 1) (0x620000000000000B ∷ 9 ∷ 0 ∷ [])))

example_joined : join_tree example_tree ≡ stands (B.Failing (batch 1) 1 1) (0x620000010000000C ∷ 4 ∷ 0 ∷ [])
example_joined = refl

-- and the theorem speaks of this tree: the whole batch in one stripe answers the same
pub example_whole : stands example_cut_anyhow.report example_cut_anyhow.records ≡ stands (B.Failing (batch 1) 1 1) (0x620000010000000C ∷ 4 ∷ 0 ∷ [])
example_whole =
    sym (example_cut_anyhow.joins example_tree (subst (Permᴰ (left ∷ right ∷ [])) (sym example_handed) (Permᴰ.swap refl refl)))
    ∙ ap read example_joined

-- ---- a batch of no columns, cut into no stripes: none at all join to clean

abbrev empty : Batch
empty = record { code = []; rows = 0; width = 0; cap = 0; values = [] }

pub empty_cut_anyhow : CutAnyhow empty [] []
unfolding verdict_of check_of walk_from
empty_cut_anyhow = cut_anyhow empty [] refl [] (record { counts = []; whole = refl; order = Permᴰ.refl []; roomy = tt })

empty_joined : join_tree none ≡ stands B.Clean []
empty_joined = refl

-- ---- a cut there always is: the whole batch in one stripe

pub whole_cut : (b : Batch) (fresh : List ℕ) → length fresh ≡ b.cap * record_words → Cut b (share 0 b.width fresh ∷ [])
whole_cut b fresh e = record { counts = b.width ∷ []; whole = omega arith; order = Permᴰ.refl _; roomy = (e, tt) }

-- ---- and a tree over what is handed in

abbrev comb : List HandedIn → Tree
comb [] = none
comb (handed r x ∷ hs) = both (leaf r x) (comb hs)
comb (run_refused n at ∷ hs) = none
comb (raise_refused r ∷ hs) = none

pub comb_leaves : (hs : List HandedIn) → AllHanded hs → (t : Tree) × (leaves t ≡ hs)
comb_leaves hs h = (comb hs, go hs h)
  where
    go : (hs : List HandedIn) → AllHanded hs → leaves (comb hs) ≡ hs
    go [] h = refl
    go (handed r x ∷ hs) h = ap (λ l. handed r x ∷ l) (go hs h)
    go (run_refused n at ∷ hs) h = absurd h
    go (raise_refused r ∷ hs) h = absurd h
