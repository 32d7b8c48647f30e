-- The array under runs of shares in any order: a column that none of them has is as it was, and one that one of them has has made its run.
-- Every run is accepted. Assumes nothing.
use Prim.Native.Nat.{ℕ, ◌+◌, ◌*◌, ◌-◌, ◌<◌, ◌≤◌}
use mathlib.Core.Path.{◌≡◌, refl, sym, ap, ◌∙◌, subst}
use mathlib.Core.Logic.{◌⊎◌, ⊎_elim, inl, inr}
use mathlib.Core.List.{List, [], ◌∷◌}
use native.Mathlib.Omega.{arith}
use lib.ListN.{length}
use Rattle.bytecode.specs.Program.{program_of}
use Rattle.accept.specs.Check.{accepted}
use Rattle.report.specs.Sizes.{record_words}
use Rattle.report.specs.Records.{report_of, records_of}
use Rattle.rows.specs.Column.{Col, column, on_stripe}
use Rattle.rows.specs.Working.{Across}
use Rattle.rows.specs.declared.Stripe.{Stripe}
use Rattle.rows.proofs.Stripes.{across_is, where?}
use Rattle.fill.specs.Meaning.{run_col}
use Rattle.fill.specs.Run.{Call, reports, verdict_of, lowest_of, answer_of, values_of, buffer_of}
use Rattle.fill.proofs.Meanings.{dests_keep}
use Rattle.fill.proofs.Refusals.{Fit, fit_accepted}
use Rattle.batch.specs.Cut.{Batch, Part, Share, stripe_of, Roomy}
use Rattle.batch.specs.Batch.{call_of, whole_call, array_after}
use Rattle.batch.proofs.Accepted.{checked_dests, on_across}
use Rattle.batch.proofs.Cuts.{had, In, had_in, had_below, had_above, Inside, shared, AllInside}

-- ---- an accepted call's answers

module _ (c : Call) (ok : verdict_of c ≡ accepted) where
  pub answer_is : answer_of c ≡ reports (report_of c.cap (lowest_of c))
  unfolding answer_of
  answer_is = rw ok

  pub values_are : values_of c ≡ on_stripe (run_col (program_of c.code)) c.rows c.width c.first c.count c.values
  unfolding values_of
  values_are = rw ok

  pub buffer_is : buffer_of c ≡ records_of c.cap (lowest_of c) c.report
  unfolding buffer_of
  buffer_is = rw ok

-- the stripe of an accepted call
abbrev pub stripe_in : (c : Call) → Fit c → Stripe
stripe_in c f = record { rows = c.rows; width = c.width; first = c.first; count = c.count; within = f.shape.stripe }

-- what an accepted call leaves, column by column
pub values_across : (c : Call) (f : Fit c) → Across (run_col (program_of c.code)) (stripe_in c f) c.values (values_of c)
values_across c f =
    subst (Across _ _ c.values) (sym (values_are c (fit_accepted c f)))
    (on_across (run_col (program_of c.code)) (stripe_in c f) c.values f.shape.array (dests_keep c.rows (program_of c.code) (checked_dests c.code c.rows f.program)))

-- ---- a column in a stripe and out of it

pub in_or_out : (s : Part) (c : ℕ) → In s c ⊎ ((c < s.first) ⊎ (s.first + s.count ≤ c))
in_or_out s c =
    ⊎_elim (λ b. inr (inl b)) (λ q. ⊎_elim (λ i. inl (omega (arith, i.1, i.2), omega (arith, i.1, i.2))) (λ a. inr (inr a)) q)
    (where? s.first s.count c)

pub had_out : (s : Part) (c : ℕ) → (c < s.first) ⊎ (s.first + s.count ≤ c) → had c s ≡ 0
had_out s c o = ⊎_elim (λ h. had_below s c h) (λ h. had_above s c h) o

module _ (b : Batch) (fresh : List ℕ) (f : Fit (whole_call b fresh)) where
  abbrev pub run : Col → Col
  run = run_col (program_of b.code)

  abbrev pub col : List ℕ → ℕ → Col
  col xs c = column b.rows b.width xs c

  -- an array of the batch's size
  abbrev pub Full : List ℕ → Type 0
  Full xs = length xs ≡ b.rows * b.width

  -- every stripe of the batch is accepted, whatever its buffer has in it
  pub share_fits : (s : Share) (xs : List ℕ) → Full xs → Inside b.width (stripe_of s) → length s.buffer ≡ b.cap * record_words → Fit (call_of b s xs)
  share_fits s xs e w r =
      record { shape = record { few_rows = f.shape.few_rows; narrow = f.shape.narrow; array = e; stripe = w }; few = f.few; buffer = r; program = f.program }

  pub record StripeRan (s : Part) (xs ys : List ℕ) : Type 0 where
    pub size : length ys ≡ length xs
    pub inside : (c : ℕ) → c < b.width → In s c → col ys c ≡ run (col xs c)
    pub outside : (c : ℕ) → c < b.width → (c < s.first) ⊎ (s.first + s.count ≤ c) → col ys c ≡ col xs c

  pub share_ran : (s : Share) (xs : List ℕ) → Fit (call_of b s xs) → StripeRan (stripe_of s) xs (values_of (call_of b s xs))
  share_ran s xs g =
      let a = values_across (call_of b s xs) g in
      record {
        size = a.size;
        inside = λ c h i.
            let e : s.stripe.first + (c - s.stripe.first) ≡ c = omega (arith, i) in
            subst (λ d. col (values_of (call_of b s xs)) d ≡ run (col xs d)) e (a.inside (c - s.stripe.first) (omega (arith, i)));
        outside = a.outside;
      }

  -- ---- many

  pub record Mixed (n : ℕ → ℕ) (xs ys : List ℕ) : Type 0 where
    pub size : length ys ≡ length xs
    pub none : (c : ℕ) → c < b.width → n c ≡ 0 → col ys c ≡ col xs c
    pub once : (c : ℕ) → c < b.width → n c ≡ 1 → col ys c ≡ run (col xs c)

  mixed_more : (s : Part) (n : ℕ → ℕ) (xs ys zs : List ℕ) → StripeRan s xs ys → Mixed n ys zs → Mixed (λ c. had c s + n c) xs zs
  mixed_more s n xs ys zs a m = record {
    size = m.size ∙ a.size;
    none = λ c h e. ⊎_elim
        (λ i. absurd (omega (arith, had_in s c i)))
        (λ o. m.none c h (omega (arith, had_out s c o)) ∙ a.outside c h o)
        (in_or_out s c);
    once = λ c h e. ⊎_elim
        (λ i. m.none c h (omega (arith, had_in s c i)) ∙ a.inside c h i)
        (λ o. m.once c h (omega (arith, had_out s c o)) ∙ ap run (a.outside c h o))
        (in_or_out s c);
  }

  pub shares_mixed : (ss : List Share) → AllInside b.width ss → Roomy b.cap ss → (xs : List ℕ) → Full xs → Mixed (shared ss) xs (array_after b ss xs)
  unfolding array_after
  shares_mixed [] w r xs e = record { size = refl; none = λ c h z. refl; once = λ c h z. absurd (omega arith) }
  shares_mixed (s ∷ ss) w r xs e =
      let a = share_ran s xs (share_fits s xs e w.0 r.0) in
      mixed_more (stripe_of s) (shared ss) xs _ _ a (shares_mixed ss w.1 r.1 _ (a.size ∙ e))

  -- each column had once: the array is that of the whole batch
  pub array_whole : (ss : List Share) → AllInside b.width ss → Roomy b.cap ss → ((c : ℕ) → c < b.width → shared ss c ≡ 1)
      → array_after b ss b.values ≡ values_of (whole_call b fresh)
  array_whole ss w r once =
      let m = shares_mixed ss w r b.values f.shape.array in
      across_is run (stripe_in (whole_call b fresh) f) b.values f.shape.array
      (record {
        size = m.size;
        inside = λ k h. m.once (0 + k) (omega arith) (once (0 + k) (omega arith));
        outside = λ c h o. absurd (⊎_elim (λ l. omega arith) (λ l. omega arith) o);
      })
      ∙ sym (values_are (whole_call b fresh) (fit_accepted (whole_call b fresh) f))

  pub array_columns : (ss : List Share) → AllInside b.width ss → Roomy b.cap ss → ((c : ℕ) → c < b.width → shared ss c ≡ 1)
      → (c : ℕ) → c < b.width → col (array_after b ss b.values) c ≡ run (col b.values c)
  array_columns ss w r once c h = (shares_mixed ss w r b.values f.shape.array).once c h (once c h)
