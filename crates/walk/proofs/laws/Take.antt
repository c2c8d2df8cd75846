-- One test point: it is passed, and then the budgets of the tasks that were due are added up.
-- Assumes nothing.
use Rattle.std.specs.Prelude.{◌≡◌, true, false, List, ℕ, zero, suc, ◌+◌, ◌≤◌, ◌<◌, get_or}
use Rattle.std.proofs.Common.{sym, ◌∙◌, ⊎_elim, arith}
use Rattle.std.proofs.Math.Decide.{ℕ_discrete}
use Rattle.std.proofs.lemmas.Bool.{eqb-false, cond-false, cond-true}
use Rattle.finite.specs.Finite.{sum_to}
use Rattle.finite.proofs.laws.Sums.{sum_cong}
use Rattle.finite.proofs.laws.Tests.{by_cases, le_or_lt}
use Rattle.model.specs.Arrays.{Arrays}
use Rattle.model.specs.Ranges.{tasks_most}
use Rattle.walk.specs.Budgets.{AddedUp, BeforeSum, where_due}
use Rattle.walk.specs.Deadlines.{BeforePass, DueAt, Mapped, PointPassed}
use Rattle.finite.specs.Masks.{bit}
use Rattle.walk.specs.Take.{BeforePoint, PointTaken}
use Rattle.walk.specs.declared.deadlines.Moved.{Moved}
use Rattle.walk.specs.declared.points.Known.{Known}
use Rattle.walk.proofs.laws.Budgets.{added_at_most, settled_other}
use Rattle.walk.proofs.laws.Stuck.{not_both}

-- terms that are 0 from n on
sum_short : (m n : ℕ) (f : ℕ → ℕ) → n ≤ m → ((i : ℕ) → n ≤ i → f i ≡ 0) → sum_to m f ≡ sum_to n f
unfolding sum_to
sum_short zero n f l e = let z : n ≡ 0 = omega arith in rw z
sum_short (suc m) n f l e = go (ℕ_discrete n (suc m)) (λ q. sum_short m n f q e)
  where
    go : Dec (n ≡ suc m) → (n ≤ m → sum_to m f ≡ sum_to n f) → sum_to m f + f m ≡ sum_to n f
    go (yes q) ih = rw q
    go (no q) ih = omega (arith, ih (omega arith), e m (omega arith))

module _ {n t : ℕ} {next : List ℕ} {mask : ℕ} (d : DueAt n t next mask) where
  -- only tasks are due
  due_below : (i : ℕ) → bit mask i ≡ true → i < n
  due_below i e = ⊎_elim (λ (le : n ≤ i). absurd (not_both e (d.beyond i le))) (λ l. l) (le_or_lt n i)

  -- an array put through f at the tasks that are due, where f leaves the others
  due_mapped : {f : ℕ → ℕ → ℕ} {xs ys : List ℕ} → n ≤ tasks_most → ((i v : ℕ) → i < n → bit mask i ≡ false → f i v ≡ v) → Mapped tasks_most (where_due (bit mask) f) xs ys → Mapped n f xs ys
  due_mapped {f} {xs} {ys} few idle m =
      record {
        same = m.same;
        below = λ i l. m.below i (omega arith) ∙ by_cases (bit mask i) (cond-true (bit mask i) _ _) (λ e. cond-false (bit mask i) _ _ e ∙ sym (idle i _ l e));
        beyond = λ i le. ⊎_elim (m.beyond i) (λ (l : i < tasks_most). m.below i l ∙ cond-false (bit mask i) _ _ (d.beyond i le)) (le_or_lt tasks_most i);
      }

module _ {a : Arrays} {t low : ℕ} {k : Known} (r : BeforePoint a t low k) where
  -- what its two calls ask
  pub before_pass : BeforePass a.tasks t a.spacing k.next
  before_pass = record { some = r.some; few = r.few; point = r.point; short = r.spacing; near = r.near }

  module _ {next' : List ℕ} {moved : Moved} (p : PointPassed a.tasks t a.spacing k.next next' moved) where
    -- what is known once the point is passed
    abbrev passed : Known
    passed = record { next = next'; budget = k.budget; cuts = k.cuts }

    pub before_sum : BeforeSum a t low (bit moved.due) passed
    before_sum =
        record {
          bounded = λ i l e. r.budgets i (due_below p.due i e);
          roomy = λ i l e. r.phases i (due_below p.due i e);
        }

    -- a task that is not due is not at its first deadline
    not_first : (i : ℕ) → i < a.tasks → bit moved.due i ≡ false → get_or a.deadline i 0 ≡ t → ⊥
    not_first i l e q = eqb-false _ _ (sym (p.due.each i l) ∙ e) (r.fresh i l q)

    pub point_taken : {k' : Known} {added : ℕ} → AddedUp a t low (bit moved.due) passed k' added → PointTaken a t low k k' (record { added = added; soonest = moved.soonest })
    point_taken {k'} {added} m =
        record {
          deadlines = rw m.next p.moved;
          budgets =
              record {
                budget = due_mapped p.due r.few (λ i v l e. settled_other t _ _ v (not_first i l e)) m.budget;
                cuts = due_mapped p.due r.few (λ i v l e. settled_other t _ low v (not_first i l e)) m.cuts;
                sum = m.sum ∙ sum_short tasks_most a.tasks _ r.few (λ i le. cond-false (bit moved.due i) _ _ (p.due.beyond i le)) ∙ sum_cong a.tasks _ _ (λ i l. rw (p.due.each i l));
                most = added_at_most before_sum (λ i e. e) m;
              };
        }
