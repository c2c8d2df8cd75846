-- Starting a piece by the rules, whatever the choice, is starting one as the argument sees it.
-- Assumes nothing.
use Rattle.std.specs.Prelude.{ℕ, zero, suc, ◌<◌, ◌≡◌, refl}
use Rattle.std.proofs.Common.{sym, ◌∙◌, subst, arith}
use Rattle.std.proofs.Math.Decide.{ℕ_discrete}
use Rattle.model.specs.Phase.{Choice}
use Rattle.model.specs.Tasks.{Tasks}
use Rattle.promise.specs.Rules.{State, pick, start, stated}
use Rattle.promise.specs.laws.Late.{Chosen, Waiting, pick_by, pick_by_at}
use Rattle.promise.proofs.laws.Remaining.{At, Proper, Ranged, RunsAt, finished_most, finished_next, remaining, remaining_not, remaining_run, stated_most, stated_some, terms, view}
use Rattle.promise.proofs.laws.Today.{today_pick}
use Rattle.promise.proofs.laws.Urgent.{best_chooses, best_of}
use Rattle.promise.proofs.laws.View.{Picked, Started, StartsBy, View, goes_on, rests, starts}

module _ (S : Tasks) (x : Choice) (ranged : (i : ℕ) → i < S.n → Ranged S x i) (lag : ℕ) where
  module _ (s : State) (ok : Proper S x s) where
    start_rem : (j i : ℕ) → s.run ≡ 0 → Waiting s S.n j → i < S.n →
        remaining S x (suc j) (stated S x j (s.phase j) (s.piece j)) i (s.phase i) (s.piece i) ≡ remaining S x s.run s.ticks i (s.phase i) (s.piece i)
    start_rem j i r u l = go (ℕ_discrete i j)
      where
        not_before : (h : ℕ) → s.run ≡ suc h → ⊥
        not_before h e = omega arith

        go : Dec (i ≡ j) →
            remaining S x (suc j) (stated S x j (s.phase j) (s.piece j)) i (s.phase i) (s.piece i) ≡ remaining S x s.run s.ticks i (s.phase i) (s.piece i)
        go (no q) =
            remaining_not S x (suc j) (stated S x j (s.phase j) (s.piece j)) i (s.phase i) (s.piece i) (λ e. q (omega arith)) ∙
            sym (remaining_not S x s.run s.ticks i (s.phase i) (s.piece i) (not_before i))
        go (yes q) =
            let at : At S x j (s.phase j) (s.piece j) = ok.job j u.task u.unfinished in
            subst
            (λ i.
            remaining S x (suc j) (stated S x j (s.phase j) (s.piece j)) i (s.phase i) (s.piece i) ≡ remaining S x s.run s.ticks i (s.phase i) (s.piece i))
            (sym q)
            (omega (
              arith,
              remaining_run S x (suc j) (stated S x j (s.phase j) (s.piece j)) j (s.phase j) (s.piece j) refl,
              remaining_not S x s.run s.ticks j (s.phase j) (s.piece j) (not_before j),
              finished_next S x j (ranged j u.task) (s.phase j) (s.piece j) at,
              finished_most S x j (ranged j u.task) (s.phase j) (s.piece j) at,
            ))

    started : (j : ℕ) → s.run ≡ 0 → Waiting s S.n j → Started (terms S x lag) j (view S x s) (view S x (start S x s (suc j)))
    started j r u =
        let at : At S x j (s.phase j) (s.piece j) = ok.job j u.task u.unfinished in
        record {
          task = u.task;
          unfinished = u.unfinished;
          keeps = λ i l. record { busy = refl; since = refl; left = refl; rem = start_rem j i r u l };
          run = refl;
          some = stated_some S x j (ranged j u.task) (s.phase j) (s.piece j) at;
          within =
              omega (
                arith,
                remaining_not S x s.run s.ticks j (s.phase j) (s.piece j) (λ e. omega arith),
                finished_next S x j (ranged j u.task) (s.phase j) (s.piece j) at,
                finished_most S x j (ranged j u.task) (s.phase j) (s.piece j) at,
              );
          short = stated_most S x j (ranged j u.task) (s.phase j) (s.piece j) at;
        }

    start_picks : (b : ℕ) → Chosen s S.n b → s.run ≡ 0 → Picked (terms S x lag) (view S x s) (view S x (start S x s b))
    start_picks zero none r = rests r none refl
    start_picks (suc j) u r = starts j r (started j r u)

    start_proper : (b : ℕ) → Chosen s S.n b → Proper S x (start S x s b)
    start_proper zero none = ok
    start_proper (suc j) u = record { job = ok.job; runs = runs }
      where
        runs : (h : ℕ) → suc j ≡ suc h → RunsAt S x (start S x s (suc j)) h
        runs h e =
            subst
            (RunsAt S x (start S x s (suc j)))
            (omega arith)
            (record {
              task = u.task;
              unfinished = u.unfinished;
              some = stated_some S x j (ranged j u.task) (s.phase j) (s.piece j) (ok.job j u.task u.unfinished);
              most = omega arith;
            })

    module _ (choose : State → ℕ) (chosen : Chosen s S.n (choose s)) where
      pick_by_at_lem : (r : ℕ) → s.run ≡ r → Picked (terms S x lag) (view S x s) (view S x (pick_by_at S x choose s r)) × Proper S x (pick_by_at S x choose s r)
      pick_by_at_lem zero e = (start_picks (choose s) chosen e, start_proper (choose s) chosen)
      pick_by_at_lem (suc j) e = (goes_on j e refl, ok)

      pub late_picks : Picked (terms S x lag) (view S x s) (view S x (pick_by S x choose s)) × Proper S x (pick_by S x choose s)
      late_picks = pick_by_at_lem s.run refl

-- Who starts is the one chosen: whatever rule the choice follows (least time left, lowest number), the start follows it.
module _ (S : Tasks) (x : Choice) (choose : State → ℕ) (First : View → ℕ → Type 0)
    (rule : (s : State) (j : ℕ) → choose s ≡ suc j → First (view S x s) j) where
  start_chosen : (s : State) (b j : ℕ) → s.run ≡ 0 → (start S x s b).run ≡ suc j → b ≡ suc j
  start_chosen s zero j r e = absurd (omega arith)
  start_chosen s (suc h) j r e = e

  pick_chosen : (s : State) (r j : ℕ) → s.run ≡ r → s.run ≡ 0 → (pick_by_at S x choose s r).run ≡ suc j → choose s ≡ suc j
  pick_chosen s zero j e z f = start_chosen s (choose s) j z f
  pick_chosen s (suc h) j e z f = absurd (omega arith)

  pub picks_first : (s : State) → StartsBy First (view S x s) (view S x (pick_by S x choose s))
  picks_first s j z e = rule s j (pick_chosen s s.run j refl z e)

-- so it is by document 01's choice
pub picks : (S : Tasks) (x : Choice) → ((i : ℕ) → i < S.n → Ranged S x i) → (s : State) → Proper S x s
    → Picked (terms S x 0) (view S x s) (view S x (pick S x s)) × Proper S x (pick S x s)
picks S x ranged s ok =
    subst
    (λ p. Picked (terms S x 0) (view S x s) (view S x p) × Proper S x p)
    (today_pick S x s)
    (late_picks S x ranged 0 s ok (best_of S) (best_chooses S s))
