-- Demand 2 of a single parcel, and demand 3: of every accepted batch and every cut of it. Assumes nothing.
use Prim.Native.Nat.{ℕ, zero, suc, ◌+◌, ◌*◌, ◌<◌, ◌≤◌}
use mathlib.Core.Path.{◌≡◌, refl, sym, ap, ap₂, ◌∙◌, subst, fun_ext}
use mathlib.Core.Logic.{◌⊎◌, ◌↔◌, ⊎_elim, inl, inr}
use mathlib.Core.List.{List, [], ◌∷◌, ◌++◌, map, Permᴰ}
use native.Mathlib.Nat.{zero-add}
use native.Mathlib.Omega.{arith}
use native.Mathlib.Decide.{dec_lt}
use lib.ListN.{length, get_or, take}
use lib.Seq.{ext_get_or}
use Rattle.bytecode.specs.Program.{program_of}
use Rattle.accept.specs.Check.{accepted}
use Rattle.report.specs.Sizes.{max_width, record_words}
use Rattle.report.specs.Records.{lowest, fails_at, report_of, records_of}
use Rattle.report.specs.Join.{Tree, none, leaf, both, stands, join_tree}
use Rattle.report.specs.declared.Report.TheVariants as B
use Rattle.report.proofs.Lowests.{lowest_ext}
use Rattle.rows.specs.Column.{Col, column, tabulate}
use Rattle.rows.proofs.Stripes.{column_at_lem, column_past, length-tabulate, get_d_tabulate}
use Rattle.fill.specs.Meaning.{run_col, violations}
use Rattle.fill.specs.Run.{reports, verdict_of, lowest_of, values_of}
use Rattle.fill.proofs.Refusals.{Fit, accepted_fit, fit_accepted}
use Rattle.batch.specs.Cut.{Batch, Share, share, stripe_of, Roomy, Cut}
use Rattle.batch.specs.Batch.{call_of, whole_call, array_after, handed, after_run, hand_in, handed_in, AllHanded, leaves, kept_by, read, column_of, violations_of, filled_of, alone_call}
use Rattle.batch.specs.Demands.{Tells, Parcel, CutAnyhow}
use Rattle.batch.proofs.Cuts.{had, In, had_in, shared, AllInside, sum-append, all_left, all_right, sum_perm, all_perm, cut_most, cut_once, cut_inside}
use Rattle.batch.proofs.Arrays.{answer_is, buffer_is, values_across, in_or_out, had_out, share_fits, share_ran, array_whole, array_columns}
use Rattle.batch.proofs.Leaves.{low_in, leaf_of, HandsIn, leaf_told, leaves_handed}
use Rattle.batch.proofs.Joins.{perm_back, split_back, one_back, none_back, tells_as, tells_only, Shown, shown_only, shown_as, meet_shown}

-- ---- a tree of joins over shares of which each column has at most one

abbrev Has : List Share → ℕ → Type 0
Has ss c = 1 ≤ shared ss c

module _ (b : Batch) (narrow : b.width ≤ max_width) where
  abbrev ShownOf : (ℕ → Type 0) → Tree → Type 0
  ShownOf P t = Shown b.cap (violations_of b) P (join_tree t)

  tree_shown : (t : Tree) (ss : List Share) → leaves t ≡ map (leaf_of b) ss → AllInside b.width ss → ((c : ℕ) → shared ss c ≤ 1) → ShownOf (Has ss) t
  tree_shown none ss e w most = (λ c h. absurd (omega (arith, ap (λ l. shared l c) (none_back (leaf_of b) ss e))), refl)
  tree_shown (leaf r x) ss e w most =
      let o = one_back (leaf_of b) (handed r x) ss e in
      let s = o.0 in
      let t = leaf_told b s narrow (subst (AllInside b.width) o.1 w).0 in
      let same : handed t.report t.after ≡ handed r x = sym t.is ∙ sym o.2 in
      let r-is : t.report ≡ r = cc in
      let x-is : t.after ≡ x = cc in
      let shown : Shown b.cap (violations_of b) (In (stripe_of s)) (stands r x) = subst (Shown b.cap (violations_of b) (In (stripe_of s))) (ap₂ stands r-is x-is) t.tells in
      shown_as b.cap (violations_of b) (In (stripe_of s)) (Has ss)
      (λ c i. omega (arith, had_in (stripe_of s) c i, ap (λ l. shared l c) o.1))
      (λ c h. ⊎_elim (λ i. i) (λ i. absurd (omega (arith, had_out (stripe_of s) c i, ap (λ l. shared l c) o.1))) (in_or_out (stripe_of s) c))
      (stands r x) shown
  tree_shown (both t u) ss e w most =
      let p = split_back (leaf_of b) (leaves t) (leaves u) ss e in
      let us = p.0 in
      let vs = p.1 in
      let w' : AllInside b.width (us ++ vs) = subst (AllInside b.width) p.2 w in
      let sum : (c : ℕ) → shared ss c ≡ shared us c + shared vs c = λ c. ap (λ l. shared l c) p.2 ∙ sum-append (λ s. had c (stripe_of s)) us vs in
      shown_as b.cap (violations_of b) (λ c. Has us c ⊎ Has vs c) (Has ss)
      (λ c h. ⊎_elim (λ i. omega (arith, sum c)) (λ i. omega (arith, sum c)) h)
      (λ c h. apart_at c (shared us c) (shared vs c) (omega (arith, sum c)))
      (join_tree (both t u))
      (meet_shown b.cap (violations_of b) (Has us) (Has vs) (λ c i j. omega (arith, sum c, most c)) (join_tree t) (join_tree u)
      (tree_shown t us p.3 (all_left _ us vs w') (λ c. omega (arith, sum c, most c)))
      (tree_shown u vs p.4 (all_right _ us vs w') (λ c. omega (arith, sum c, most c))))
    where
      apart_at : (c m n : ℕ) → 1 ≤ m + n → (1 ≤ m) ⊎ (1 ≤ n)
      apart_at c zero n h = inr (omega arith)
      apart_at c (suc m) n h = inl (omega arith)

-- ---- what the runs hand in does not hang on the order in which they run

module _ (b : Batch) (fresh : List ℕ) (f : Fit (whole_call b fresh)) where
  abbrev col : List ℕ → ℕ → Col
  col xs c = column b.rows b.width xs c

  hand_in_is : (s : Share) (xs : List ℕ) → Fit (call_of b s xs) → ((c : ℕ) → c < b.width → In (stripe_of s) c → col xs c ≡ column_of b c) → hand_in b s xs ≡ leaf_of b s
  unfolding lowest_of
  hand_in_is s xs g agree =
      ap₂ (after_run s.stripe.first) (answer_is (call_of b s xs) (fit_accepted _ g)) (buffer_is (call_of b s xs) (fit_accepted _ g))
      ∙ ap (λ l. after_run s.stripe.first (reports (report_of b.cap l)) (records_of b.cap l s.buffer)) low
    where
      low : lowest_of (call_of b s xs) ≡ low_in b (stripe_of s)
      low =
          lowest_ext (λ k. violations (program_of b.code) (col xs (s.stripe.first + k))) (λ k. violations_of b (s.stripe.first + k)) s.stripe.count
          (λ k h. ap (violations (program_of b.code)) (agree (s.stripe.first + k) (omega (arith, g.shape.stripe)) (omega arith, omega arith)))

  handed_in_are : (ss : List Share) → AllInside b.width ss → Roomy b.cap ss → ((c : ℕ) → shared ss c ≤ 1) → (xs : List ℕ) → length xs ≡ b.rows * b.width
      → ((c : ℕ) → c < b.width → Has ss c → col xs c ≡ column_of b c) → handed_in b ss xs ≡ map (leaf_of b) ss
  unfolding handed_in
  handed_in_are [] w r most xs e agree = refl
  handed_in_are (s ∷ ss) w r most xs e agree =
      let g = share_fits b fresh f s xs e w.0 r.0 in
      let a = share_ran b fresh f s xs g in
      ap₂ ◌∷◌
      (hand_in_is s xs g (λ c h i. agree c h (omega (arith, had_in (stripe_of s) c i))))
      (handed_in_are ss w.1 r.1 (λ c. omega (arith, most c)) (values_of (call_of b s xs)) (a.size ∙ e)
      (λ c h i. ⊎_elim
      (λ j. absurd (omega (arith, most c, had_in (stripe_of s) c j)))
      (λ o. a.outside c h o ∙ agree c h (omega arith))
      (in_or_out (stripe_of s) c)))

  -- ---- a parcel alone

  alone_fits : (c : ℕ) → Fit (alone_call b fresh c)
  alone_fits c =
      record { shape = record { few_rows = f.shape.few_rows; narrow = omega arith; array = length-tabulate b.rows _ ∙ omega arith; stripe = omega arith }; few = f.few; buffer = f.buffer; program = f.program }

  same_place : (k : ℕ) → k * 1 + 0 ≡ k
  same_place k = omega arith

  alone_start : (c : ℕ) → column b.rows 1 (tabulate b.rows (column_of b c)) 0 ≡ column_of b c
  alone_start c = fun_ext λ r. go r (dec_lt r b.rows)
    where
      go : (r : ℕ) → Dec (r < b.rows) → column b.rows 1 (tabulate b.rows (column_of b c)) 0 r ≡ column_of b c r
      go r (yes l) =
          column_at_lem 1 (tabulate b.rows (column_of b c)) 0 l
          ∙ ap (λ k. get_or (tabulate b.rows (column_of b c)) k 0) (same_place r)
          ∙ get_d_tabulate b.rows (column_of b c) r l
      go r (no n) = column_past 1 (tabulate b.rows (column_of b c)) 0 (omega arith) ∙ sym (column_past b.width b.values c (omega arith))

  alone_filled : (c : ℕ) → column b.rows 1 (values_of (alone_call b fresh c)) 0 ≡ filled_of b c
  alone_filled c = (values_across (alone_call b fresh c) (alone_fits c)).inside 0 (omega arith) ∙ ap (run_col (program_of b.code)) (alone_start c)

  alone_list : (c : ℕ) → values_of (alone_call b fresh c) ≡ tabulate b.rows (filled_of b c)
  alone_list c =
      ext_get_or 0 ys (tabulate b.rows (filled_of b c)) (size ∙ sym (length-tabulate b.rows (filled_of b c))) λ k h.
      at_word k (subst (λ n. k < n) size h)
    where
      ys : List ℕ
      ys = values_of (alone_call b fresh c)

      size : length ys ≡ b.rows
      size = (values_across (alone_call b fresh c) (alone_fits c)).size ∙ length-tabulate b.rows (column_of b c)

      at_word : (k : ℕ) → k < b.rows → get_or ys k 0 ≡ get_or (tabulate b.rows (filled_of b c)) k 0
      at_word k l =
          ap (λ n. get_or ys n 0) (sym (same_place k)) ∙ sym (column_at_lem 1 ys 0 l) ∙ ap (λ (g : Col). g k) (alone_filled c)
          ∙ sym (get_d_tabulate b.rows (filled_of b c) k l)

  alone_lowest : (c : ℕ) → lowest_of (alone_call b fresh c) ≡ fails_at 0 (violations_of b c)
  unfolding lowest_of lowest
  alone_lowest c = ap (λ (g : Col). fails_at 0 (violations (program_of b.code) g)) (alone_start c)

  whole_column : (c : ℕ) → c < b.width → col (values_of (whole_call b fresh)) c ≡ filled_of b c
  whole_column c h =
      subst (λ d. col (values_of (whole_call b fresh)) d ≡ filled_of b d) (zero-add c) ((values_across (whole_call b fresh) f).inside c h)

-- demand 2: a parcel alone, and the same parcel in the batch
pub parcel : (b : Batch) (buffer : List ℕ) → verdict_of (whole_call b buffer) ≡ accepted → (c : ℕ) → c < b.width → Parcel b buffer c
parcel b buffer ok c h =
    let f = accepted_fit (whole_call b buffer) ok in
    let g = fit_accepted (alone_call b buffer c) (alone_fits b buffer f c) in
    record {
      alone_accepted = g;
      alone_words = alone_list b buffer f c;
      alone_answer = answer_is (alone_call b buffer c) g ∙ ap (λ l. reports (report_of b.cap l)) (alone_lowest b buffer f c);
      alone_records = buffer_is (alone_call b buffer c) g ∙ ap (λ l. records_of b.cap l buffer) (alone_lowest b buffer f c);
      alone_column = alone_filled b buffer f c;
      same_in_batch = whole_column b buffer f c h ∙ sym (alone_filled b buffer f c);
    }

-- demand 3: every accepted batch, every cut, every order of running, and, apart from it, every order and bracketing of joining
pub cut_anyhow : (b : Batch) (buffer : List ℕ) → verdict_of (whole_call b buffer) ≡ accepted → (ss : List Share) → Cut b ss → CutAnyhow b buffer ss
cut_anyhow b buffer ok ss cut = record {
  all_handed = subst AllHanded (sym handed_are) (leaves_handed b f.shape.narrow ss inside);
  array = array_whole b buffer f ss inside cut.roomy once;
  columns = columns;
  parcels = λ c h. columns c h ∙ sym (alone_filled b buffer f c);
  report = w.report;
  records = take (kept_by w.report * record_words) w.after;
  whole_stripe = (w.after, hand_in_is b buffer f whole b.values f (λ c h i. refl) ∙ w.is, refl);
  tells = tells;
  joins = λ t p.
      let q = perm_back (leaf_of b) (leaves t) (handed_in b ss b.values) p ss handed_are in
      let same : (c : ℕ) → shared q.0 c ≡ shared ss c = λ c. sum_perm (λ s. had c (stripe_of s)) q.1 in
      let shown = tree_shown b f.shape.narrow t q.0 q.2 (all_perm _ q.1 inside) (λ c. omega (arith, same c, most c)) in
      shown_only b.cap (violations_of b) (λ c. c < b.width) (join_tree t) w.report _
      (shown_as b.cap (violations_of b) (Has q.0) (λ c. c < b.width)
      (λ c h. in_width c (omega (arith, same c)))
      (λ c h. omega (arith, same c, once c h))
      (join_tree t) shown)
      tells;
}
  where
    f : Fit (whole_call b buffer)
    f = accepted_fit (whole_call b buffer) ok

    inside : AllInside b.width ss
    inside = cut_inside b ss cut

    most : (c : ℕ) → shared ss c ≤ 1
    most = cut_most b ss cut

    once : (c : ℕ) → c < b.width → shared ss c ≡ 1
    once = cut_once b ss cut

    whole : Share
    whole = share 0 b.width buffer

    w : HandsIn b whole
    w = leaf_told b whole f.shape.narrow (omega arith)

    tells : Tells (λ c. c < b.width) b.cap (violations_of b) w.report (take (kept_by w.report * record_words) w.after)
    tells =
        tells_as b.cap (violations_of b) (In (stripe_of whole)) (λ c. c < b.width)
        (λ c i. omega (arith, i)) (λ c h. (omega arith, omega arith)) w.report _ w.tells

    handed_are : handed_in b ss b.values ≡ map (leaf_of b) ss
    handed_are = handed_in_are b buffer f ss inside cut.roomy most b.values f.shape.array (λ c h i. refl)

    columns : (c : ℕ) → c < b.width → column b.rows b.width (array_after b ss b.values) c ≡ filled_of b c
    columns = array_columns b buffer f ss inside cut.roomy once

    -- a column that a share has lies within the width
    in_width : (c : ℕ) → Has ss c → c < b.width
    in_width c h = go ss inside h
      where
        go : (l : List Share) → AllInside b.width l → Has l c → c < b.width
        go [] i h = absurd (omega arith)
        go (s ∷ l) i h = ⊎_elim
            (λ j. omega (arith, j, i.0))
            (λ o. go l i.1 (omega (arith, had_out (stripe_of s) c o)))
            (in_or_out (stripe_of s) c)

-- ---- what follows

module _ (b : Batch) (buffer : List ℕ) (ok : verdict_of (whole_call b buffer) ≡ accepted) where
  -- clean exactly when no parcel fails
  pub clean_exactly : (ss : List Share) (d : CutAnyhow b buffer ss) → (d.report ≡ B.Clean) ↔ ((c : ℕ) → c < b.width → violations_of b c ≡ [])
  clean_exactly ss d = (
    λ e. (subst (λ r. Tells (λ c. c < b.width) b.cap (violations_of b) r d.records) e d.tells).0,
    λ h. (tells_only b.cap (violations_of b) (λ c. c < b.width) d.report B.Clean d.records [] d.tells (h, refl)).0,
  )

  -- two cuts, run in two orders and joined in two ways, leave one array and one report with its records
  pub one_outcome : (ss ts : List Share) → Cut b ss → Cut b ts → (t u : Tree)
      → Permᴰ (leaves t) (handed_in b ss b.values) → Permᴰ (leaves u) (handed_in b ts b.values)
      → (array_after b ss b.values ≡ array_after b ts b.values) × (read (join_tree t) ≡ read (join_tree u))
  one_outcome ss ts cut cut' t u p q =
      let d = cut_anyhow b buffer ok ss cut in
      let e = cut_anyhow b buffer ok ts cut' in
      let same = tells_only b.cap (violations_of b) (λ c. c < b.width) d.report e.report d.records e.records d.tells e.tells in
      (d.array ∙ sym e.array, d.joins t p ∙ ap₂ stands same.0 same.1 ∙ sym (e.joins u q))
