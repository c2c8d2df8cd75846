-- Admission by the rules is admission as the argument sees it.
-- Assumes nothing.
use Rattle.std.specs.Prelude.{ℕ, suc, ◌+◌, ◌-◌, ◌≤◌, ◌<◌, ◌≡◌, refl, Bool, true, false, cond, ◌&&◌, ◌||◌}
use Rattle.std.proofs.Common.{sym, ap, ◌∙◌, subst, subst₂, true≢false}
use Rattle.std.proofs.Math.Path.{ap₂}
use Rattle.std.proofs.Math.Bool.{not}
use native.Mathlib.Omega.{arith}
use Rattle.std.proofs.Math.Dec.{ltb, leb}
use borrow.Author.Tests.{ltb-true, leb-true, not-true}
use Rattle.finite.specs.Finite.{sum_to}
use Rattle.finite.proofs.laws.Tests.{by_cases}
use Rattle.std.proofs.lemmas.Bool.{and_parts, cond-false, cond-true, or_left}
use Rattle.model.specs.Phase.{Choice, phases_of}
use Rattle.model.specs.Tasks.{Tasks}
use Rattle.promise.specs.Rules.{State, admit, stated}
use Rattle.promise.specs.laws.Late.{admit_at, lets_in_at}
use Rattle.promise.proofs.laws.Remaining.{At, Proper, Ranged, RunsAt, finished_work, remaining, remaining_not, terms, view}
use Rattle.promise.proofs.laws.Today.{today_admit}
use Rattle.promise.proofs.laws.View.{Admitted, Ask, Entered, Unchanged}

-- what admission answers, as the argument sees it
abbrev pub ask_of : Tasks → ℕ → (ℕ → Bool) → (ℕ → ℕ) → State → Ask
ask_of S lag mask age s = record { let_in = lets_in_at S lag s mask age; age = age }

-- what is known of a task that is let in
pub record LetIn (S : Tasks) (lag : ℕ) (s : State) (age : ℕ → ℕ) (i : ℕ) : Type 0 where
  pub exists : i < S.n
  pub idle : s.busy i ≡ false
  pub apart : S.T i + age i ≤ s.since i
  pub heard : age i ≤ lag

module _ (S : Tasks) (lag : ℕ) where
  pub let_in_lem : (s : State) (mask : ℕ → Bool) (age : ℕ → ℕ) (i : ℕ) → lets_in_at S lag s mask age i ≡ true → LetIn S lag s age i
  unfolding lets_in_at
  let_in_lem s mask age i e =
      let (e₀, heard) = and_parts (mask i && ltb i S.n && not (s.busy i) && leb (S.T i + age i) (s.since i)) (leb (age i) lag) e in
      let (e₁, apart) = and_parts (mask i && ltb i S.n && not (s.busy i)) (leb (S.T i + age i) (s.since i)) e₀ in
      let (e₂, idle) = and_parts (mask i && ltb i S.n) (not (s.busy i)) e₁ in
      record {
        exists = ltb-true i S.n (and_parts (mask i) (ltb i S.n) e₂).1;
        idle = not-true (s.busy i) idle;
        apart = leb-true (S.T i + age i) (s.since i) apart;
        heard = leb-true (age i) lag heard;
      }

  -- whoever has an unfinished job is not let in
  pub not_in : (s : State) (mask : ℕ → Bool) (age : ℕ → ℕ) (j : ℕ) → s.busy j ≡ true → lets_in_at S lag s mask age j ≡ false
  not_in s mask age j b = by_cases (lets_in_at S lag s mask age j) (λ e. absurd (true≢false (sym b ∙ (let_in_lem s mask age j e).idle))) (λ e. e)

module _ (S : Tasks) (x : Choice) (ranged : (i : ℕ) → i < S.n → Ranged S x i) (lag : ℕ) where
  module _ (s : State) (ok : Proper S x s) (mask : ℕ → Bool) (age : ℕ → ℕ) where
    fresh_rem : (i j p : ℕ) → (s.run ≡ suc i → ⊥) → j ≡ 1 → p ≡ 1 → remaining S x s.run s.ticks i j p ≡ (phases_of S).budget x i
    unfolding finished_work sum_to
    fresh_rem i j p h e f =
        remaining_not S x s.run s.ticks i j p h ∙ ap₂ (λ a b. (phases_of S).budget x i - finished_work S x i a (b - 1)) e f ∙ omega arith

    pub admits : Admitted (terms S x lag) (ask_of S lag mask age s) (view S x s) (view S x (admit_at S lag mask age s))
    admits = record { enters = enters; keeps = keeps; run = refl; ticks = refl }
      where
        enters : (i : ℕ) → i < S.n → lets_in_at S lag s mask age i ≡ true → Entered (terms S x lag) (age i) (view S x s) (view S x (admit_at S lag mask age s)) i
        enters i l e =
            let λ' : LetIn S lag s age i = let_in_lem S lag s mask age i e in
            record {
              idle = λ'.idle;
              apart = λ'.apart;
              heard = λ'.heard;
              busy = or_left (lets_in_at S lag s mask age i) (s.busy i) e;
              since = cond-true (lets_in_at S lag s mask age i) (age i) (s.since i) e;
              left = cond-true (lets_in_at S lag s mask age i) (S.D i - age i) (s.left i) e;
              rem =
                  fresh_rem
                  i
                  (cond (lets_in_at S lag s mask age i) 1 (s.phase i))
                  (cond (lets_in_at S lag s mask age i) 1 (s.piece i))
                  (λ r. true≢false (sym (ok.runs i r).unfinished ∙ λ'.idle))
                  (cond-true (lets_in_at S lag s mask age i) 1 (s.phase i) e)
                  (cond-true (lets_in_at S lag s mask age i) 1 (s.piece i) e);
            }

        keeps : (i : ℕ) → i < S.n → lets_in_at S lag s mask age i ≡ false → Unchanged (view S x s) (view S x (admit_at S lag mask age s)) i
        keeps i l e =
            let ph : cond (lets_in_at S lag s mask age i) 1 (s.phase i) ≡ s.phase i = cond-false (lets_in_at S lag s mask age i) 1 (s.phase i) e in
            let pc : cond (lets_in_at S lag s mask age i) 1 (s.piece i) ≡ s.piece i = cond-false (lets_in_at S lag s mask age i) 1 (s.piece i) e in
            record {
              busy = ap (λ (v : Bool). v || s.busy i) e;
              since = cond-false (lets_in_at S lag s mask age i) (age i) (s.since i) e;
              left = cond-false (lets_in_at S lag s mask age i) (S.D i - age i) (s.left i) e;
              rem = ap₂ (remaining S x s.run s.ticks i) ph pc;
            }

    pub late_admit_proper : Proper S x (admit_at S lag mask age s)
    late_admit_proper = record { job = job; runs = runs }
      where
        job : (i : ℕ) → i < S.n → (lets_in_at S lag s mask age i || s.busy i) ≡ true →
            At S x i (cond (lets_in_at S lag s mask age i) 1 (s.phase i)) (cond (lets_in_at S lag s mask age i) 1 (s.piece i))
        job i l = go (lets_in_at S lag s mask age i)
          where
            go : (v : Bool) → (v || s.busy i) ≡ true → At S x i (cond v 1 (s.phase i)) (cond v 1 (s.piece i))
            go true b =
                record { phase_least = omega arith; phase_at_most = (ranged i l).phased; piece_least = omega arith; piece_at_most = (ranged i l).counted (1 - 1) (ranged i l).phased }
            go false b = ok.job i l b

        runs : (j : ℕ) → s.run ≡ suc j → RunsAt S x (admit_at S lag mask age s) j
        runs j r =
            let ρ : RunsAt S x s j = ok.runs j r in
            let out : lets_in_at S lag s mask age j ≡ false = not_in S lag s mask age j ρ.unfinished in
            let κ : Unchanged (view S x s) (view S x (admit_at S lag mask age s)) j = admits.keeps j ρ.task out in
            record {
              task = ρ.task;
              unfinished = κ.busy ∙ ρ.unfinished;
              some = ρ.some;
              most =
                  subst₂
                  (λ a b. s.ticks ≤ stated S x j a b)
                  (sym (cond-false (lets_in_at S lag s mask age j) 1 (s.phase j) out))
                  (sym (cond-false (lets_in_at S lag s mask age j) 1 (s.piece j) out))
                  ρ.most;
            }

-- so it is by document 01's rules
pub admit_proper : (S : Tasks) (x : Choice) → ((i : ℕ) → i < S.n → Ranged S x i) → (s : State) → Proper S x s → (mask : ℕ → Bool) → Proper S x (admit S mask s)
admit_proper S x ranged s ok mask = subst (Proper S x) (today_admit S x s mask) (late_admit_proper S x ranged 0 s ok mask (λ i. 0))
