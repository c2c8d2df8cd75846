-- DEMAND 3 FROM ONE FACT: no job is ever late. Whoever goes first, and however late releases are heard of.
-- Assumes nothing.
use Rattle.std.specs.Prelude.{eqb, ℕ, suc, ◌+◌, ◌-◌, ◌<◌, ◌≡◌, true}
use Rattle.std.proofs.Common.{sym, ◌∙◌, arith}
use Rattle.std.proofs.Math.Path.{ap}
use Rattle.std.proofs.Math.Bool.{cond}
use Rattle.finite.specs.Finite.{sum_to}
use Rattle.finite.proofs.laws.Sums.{sum_cong}
use Rattle.model.specs.Phase.{Choice, phases_of}
use Rattle.model.specs.Tasks.{Tasks}
use Rattle.promise.specs.History.{work_in}
use Rattle.promise.specs.Promise.{FinishesIn, Meets}
use Rattle.promise.specs.Rules.{Answer, State}
use Rattle.promise.proofs.laws.Deadlines.{Done, FinishesWithin, deadline_met}
use Rattle.promise.proofs.laws.Jobs.{ran_at}
use Rattle.promise.specs.laws.Late.{Chooses, LateKept, LateRequest, MeetsFrom, ageless, late_answer_at}
use Rattle.promise.proofs.laws.Order.{finished_is, let_in_is, pass_flag, pass_ran, piece_in_order}
use Rattle.promise.proofs.laws.Remaining.{Ranged, terms, view}
use Rattle.promise.proofs.laws.Starting.{picks_first}
use Rattle.promise.proofs.laws.Ticking.{ask_at, entered_at, pass_at, runs, views_at}
use Rattle.promise.proofs.laws.View.{NeverLate, Pass, Ranges, Safety, View}

module _ (S : Tasks) (x : Choice) (ranged : (i : ℕ) → i < S.n → Ranged S x i) (lag : ℕ) (ρ : Ranges (terms S x lag))
    (choose : State → ℕ) (chosen : Chooses S choose) (ask : ℕ → LateRequest) (never_late : NeverLate (terms S x lag) (views_at S x lag choose ask)) where
  abbrev h : ℕ → Answer
  h t = late_answer_at S x lag choose ask t

  abbrev passes : ℕ → Pass
  passes = pass_at S x lag choose ask

  module _ (r i : ℕ) (l : i < S.n) (e : (h r).let_in i ≡ true) where
    abbrev met : FinishesWithin (ask_at S x lag choose ask) passes i (S.D i - (ask r).age i) ((phases_of S).budget x i) r
    met =
        deadline_met (terms S x lag) ρ (ask_at S x lag choose ask) passes (views_at S x lag choose ask) (runs S x ranged lag choose chosen ask) never_late i l r
        (sym (let_in_is S x ranged lag choose chosen ask r i) ∙ e)

    work_is : (n : ℕ) → work_in h i r n ≡ sum_to n (λ k. ran_at i (passes (r + k)))
    unfolding work_in ran_at
    work_is n = sum_cong n _ _ (λ k _. ap (λ z. cond (eqb z (suc i)) 1 0) (sym (pass_ran S x ranged lag choose chosen ask (r + k))))

    all_work : work_in h i r (suc (r + met.later) - r) ≡ sum_to (suc met.later) (λ k. ran_at i (passes (r + k)))
    all_work =
        let n : suc (r + met.later) - r ≡ suc met.later = omega arith in
        ap (work_in h i r) n ∙ work_is (suc met.later)

    done_pass : (t : ℕ) → FinishesIn h i t → Done i (passes t)
    done_pass t f = (pass_ran S x ranged lag choose chosen ask t ∙ f.ran, sym (finished_is S x ranged lag choose chosen ask t) ∙ f.finished)

    abbrev job_meets : Meets S x (λ t. ageless (ask t)) h i r
    job_meets =
        record {
          finish = r + met.later;
          from = omega arith;
          in_time = omega (arith, met.soon);
          finishes = record { ran = sym (pass_ran S x ranged lag choose chosen ask (r + met.later)) ∙ met.ends.0; finished = finished_is S x ranged lag choose chosen ask (r + met.later) ∙ met.ends.1 };
          not_before = λ t a b f.
              let k : r + (t - r) ≡ t = omega arith in
              met.not_before (t - r) (omega arith) (rw k (done_pass t f));
          alone = λ t a b.
              let k : r + suc (t - suc r) ≡ t = omega arith in
              let_in_is S x ranged lag choose chosen ask t i ∙ rw k at (met.alone (t - suc r) (omega arith));
          work = omega (arith, all_work, met.work);
          whole = λ quiet. all_work ∙
              met.exact (λ k b f. pass_flag S x ranged lag choose chosen ask (r + k) ∙ quiet (r + k) (omega arith) (omega arith) (sym (pass_ran S x ranged lag choose chosen ask (r + k)) ∙ f));
        }

  -- counted from the arrival
  late_meets : (r i : ℕ) → i < S.n → (h r).let_in i ≡ true → MeetsFrom S x ask h i r
  late_meets r i l e = record { meets = job_meets r i l e; arrival = omega (arith, (met r i l e).soon) }

  pub kept_by : LateKept S x ask (λ t. late_answer_at S x lag choose ask t)
  kept_by =
      record {
        kept = record { deadlines = job_meets; pieces = piece_in_order S x ranged lag choose chosen ask };
        arrivals = late_meets;
      }

-- All that a choice of step 2 has to bring: that it starts a job where one is unfinished, and a rule that it follows, with a safety argument.
pub kept_safely : (S : Tasks) (x : Choice) → ((i : ℕ) → i < S.n → Ranged S x i) → (lag : ℕ) → Ranges (terms S x lag)
    → (First : View → ℕ → Type 0) → Safety (terms S x lag) First
    → (choose : State → ℕ) → Chooses S choose → ((s : State) (j : ℕ) → choose s ≡ suc j → First (view S x s) j)
    → (ask : ℕ → LateRequest) → LateKept S x ask (λ t. late_answer_at S x lag choose ask t)
kept_safely S x ranged lag ρ First safety choose chosen rule ask =
    kept_by S x ranged lag ρ choose chosen ask
    (safety
    (ask_at S x lag choose ask)
    (pass_at S x lag choose ask)
    (views_at S x lag choose ask)
    (runs S x ranged lag choose chosen ask)
    (λ t. picks_first S x choose First rule (entered_at S x lag choose ask t)))
