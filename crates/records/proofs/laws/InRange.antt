-- The test of a record's range decides it.
-- Assumes nothing.
use Rattle.std.specs.Prelude.{◌≡◌, refl, Bool, true, false, cond, ◌&&◌, ℕ, zero, suc, ◌-◌, ◌≤◌, ◌<◌, leb, eqb, get_or}
use Rattle.std.proofs.Common.{sym, ap, ◌∙◌, true≢false, arith}
use Rattle.std.proofs.Math.Decide.{dec_lt}
use Rattle.finite.specs.Finite.{Below}
use Rattle.finite.proofs.laws.Decided.{by_test, every, three, within_decides}
use Rattle.std.proofs.lemmas.Bool.Decides.{Decides-and, Decides-eqb, Decides-like, Decides-ltb, not_from_Decides}
use Rattle.std.specs.Bool.{Decides}
use Rattle.finite.proofs.laws.Tests.{by_cases, leb_decides}
use Rattle.model.specs.Phase.{Choice}
use Rattle.model.specs.Ranges.{within}
use Rattle.model.specs.Tasks.{Tasks}
use Rattle.model.proofs.laws.Arrays.{beyond}
use Rattle.promise.specs.Rules.{State, stated}
use Rattle.promise.proofs.laws.Range.{Range}
use Rattle.promise.proofs.laws.Remaining.{Proper, RunsAt}
use Rattle.records.specs.Ranges.{changing_test, in_range}
use Rattle.records.specs.Record.{state_in}
use Rattle.records.specs.Held.{HeldInRange, counts_in, held_in, tasks_in}
use Rattle.records.specs.declared.Dispatcher.{Dispatcher}
use Rattle.records.proofs.laws.Fields.{Fields, Long}
use Rattle.records.proofs.laws.Held.{held_decides}
use Rattle.records.proofs.laws.Lent.{itself}

-- ---- what each test says

abbrev pub Within : ℕ → ℕ → ℕ → Type 0
Within least most v = (least ≤ v) × (v ≤ most)

-- an unfinished job, or three zeros
abbrev pub JobP : Bool → ℕ → ℕ → ℕ → ℕ → ℕ → ℕ → Type 0
JobP unfinished D m x left phase piece =
    (unfinished ≡ true → (left ≤ D) × Within 1 m phase × Within 1 x piece) ×
    (¬ (unfinished ≡ true) → (left ≡ 0) × (phase ≡ 0) × (piece ≡ 0))

-- a running piece, or none
abbrev pub RunP : ℕ → ℕ → Bool → ℕ → ℕ → Type 0
RunP run n unfinished ticks most =
    (run ≡ 0 → ticks ≡ 0) × (¬ (run ≡ 0) → (run ≤ n) × (unfinished ≡ true) × Within 1 most ticks)

pub job_decides : (b : Bool) (D m x left phase piece : ℕ)
    → Decides (cond b (leb left D && within 1 m phase && within 1 x piece) (eqb left 0 && eqb phase 0 && eqb piece 0)) (JobP b D m x left phase piece)
job_decides b D m x left phase piece =
    by_test (itself b)
    (three (leb_decides left D) (within_decides 1 m phase) (within_decides 1 x piece))
    (three (Decides-eqb left 0) (Decides-eqb phase 0) (Decides-eqb piece 0))

pub run_decides : (run n : ℕ) (u : Bool) (ticks most : ℕ) → Decides (cond (eqb run 0) (eqb ticks 0) (leb run n && u && within 1 most ticks)) (RunP run n u ticks most)
run_decides run n u ticks most =
    by_test (Decides-eqb run 0) (Decides-eqb ticks 0)
    (three (leb_decides run n) (itself u) (within_decides 1 most ticks))

module _ (d : Dispatcher) where
  abbrev S : Tasks
  S = tasks_in d

  abbrev x : Choice
  x = counts_in d

  abbrev s : State
  s = state_in d

  -- the job of task i
  abbrev pub JobAt : ℕ → Type 0
  JobAt i = JobP (s.busy i) (S.D i) (S.m i) (x i (s.phase i - 1)) (s.left i) (s.phase i) (s.piece i)

  abbrev pub RunAt : Type 0
  RunAt = RunP s.run S.n (s.busy (s.run - 1)) s.ticks (stated S x (s.run - 1) (s.phase (s.run - 1)) (s.piece (s.run - 1)))

  -- what a tick changes of a task that exists, and of one that does not
  abbrev pub NowP : ℕ → Type 0
  NowP i = (s.since i ≤ S.T i) × (get_or d.unfinished i 0 ≤ 1) × JobAt i

  abbrev pub AbsentP : ℕ → Type 0
  AbsentP i = (((◌≡◌ {A = ℕ} (s.since i) 0 × (get_or d.unfinished i 0 ≡ 0)) × (s.left i ≡ 0)) × (s.phase i ≡ 0)) × (s.piece i ≡ 0)

  abbrev pub ChangingP : ℕ → Type 0
  ChangingP i = (i < S.n → NowP i) × (¬ (i < S.n) → AbsentP i)

  pub changing_decides : (i : ℕ) → Decides (changing_test d i) (ChangingP i)
  changing_decides i =
      by_test (Decides-ltb i S.n)
      (three (leb_decides (s.since i) (S.T i)) (leb_decides (get_or d.unfinished i 0) 1) (job_decides (s.busy i) (S.D i) (S.m i) (x i (s.phase i - 1)) (s.left i) (s.phase i) (s.piece i)))
      (Decides-and _ _ (Decides-and _ _ (Decides-and _ _ (Decides-and _ _ (Decides-eqb (s.since i) 0) (Decides-eqb (get_or d.unfinished i 0) 0)) (Decides-eqb (s.left i) 0)) (Decides-eqb (s.phase i) 0)) (Decides-eqb (s.piece i) 0))

  -- ---- the fields, from the tests
  module _ (long : Long d) (held : HeldInRange (held_in d)) (now : Below 32 ChangingP) (run : RunAt) where
    absent : (i : ℕ) → S.n ≤ i → AbsentP i
    absent i h = go (dec_lt i 32)
      where
        go : Dec (i < 32) → AbsentP i
        go (yes l) = (now i l).1 (λ k. absurd (omega arith))
        go (no l) =
            let h : 32 ≤ i = omega arith in
            ((((beyond d.since 32 i long.since h, beyond d.unfinished 32 i long.unfinished h), beyond d.left 32 i long.left h), beyond d.phase 32 i long.phase h), beyond d.piece 32 i long.piece h)

    not_busy : (i : ℕ) → get_or d.unfinished i 0 ≡ 0 → s.busy i ≡ false
    not_busy i e = ap (λ z. eqb z 1) e

    pub any : (i : ℕ) → NowP i
    any i = go (dec_lt i S.n)
      where
        go : Dec (i < S.n) → NowP i
        go (yes l) = (now i (omega (arith, held.table.tasks))).0 l
        go (no l) =
            let z = absent i (omega arith) in
            (omega (arith, z.0.0.0.0), omega (arith, z.0.0.0.1), (λ b. absurd (not_from_Decides _ (itself (s.busy i)) (not_busy i z.0.0.0.1) b), λ b. (z.0.0.1, z.0.1, z.1)))

    state : Range S s
    state = record {
      since = λ i. (any i).0;
      left = λ i b. ((any i).2.0 b).0;
      idle = λ i b. let z = (any i).2.1 (not_from_Decides _ (itself (s.busy i)) b) in record { left = z.0; phase = z.1; piece = z.2 };
      none = λ i h. not_busy i (absent i h).0.0.0.1;
      rest = run.0;
    }

    runs : (j : ℕ) → s.run ≡ suc j → RunsAt S x s j
    runs j e =
        let r = run.1 (λ z. absurd (omega arith)) in
        let k : s.run - 1 ≡ j = omega arith in
        record {
          task = omega (arith, r.0);
          unfinished = ap s.busy (sym k) ∙ r.1;
          some = r.2.0;
          most = omega (arith, r.2.1, ap (λ z. stated S x z (s.phase z) (s.piece z)) k);
        }

    jobs : Proper S x s
    jobs = record {
      job = λ i l b. let j = (any i).2.0 b in record { phase_least = j.1.0; phase_at_most = j.1.1; piece_least = j.2.0; piece_at_most = j.2.1 };
      runs = runs;
    }

    fields_from : Fields d
    fields_from = record { held = held; state = state; jobs = jobs; binary = λ i. (any i).1 }

  -- ---- the tests, from the fields
  module _ (f : Fields d) where
    job_of : (i : ℕ) → JobAt i
    job_of i =
        (λ b. busy b (dec_lt i S.n), λ n. let z = f.state.idle i (by_cases (s.busy i) (λ b. absurd (n b)) (λ b. b)) in (z.left, z.phase, z.piece))
      where
        busy : s.busy i ≡ true → Dec (i < S.n) → (s.left i ≤ S.D i) × Within 1 (S.m i) (s.phase i) × Within 1 (x i (s.phase i - 1)) (s.piece i)
        busy b (yes l) = let a = f.jobs.job i l b in (f.state.left i b, (a.phase_least, a.phase_at_most), (a.piece_least, a.piece_at_most))
        busy b (no l) = absurd (true≢false (sym b ∙ f.state.none i (omega arith)))

    run_of : RunAt
    run_of = (f.state.rest, go s.run refl)
      where
        go : (r : ℕ) → s.run ≡ r → ¬ (s.run ≡ 0) → (s.run ≤ S.n) × (s.busy (s.run - 1) ≡ true) ×
            Within 1 (stated S x (s.run - 1) (s.phase (s.run - 1)) (s.piece (s.run - 1))) s.ticks
        go zero e n = absurd (n e)
        go (suc j) e n =
            let w = f.jobs.runs j e in
            let k : j ≡ s.run - 1 = omega arith in (
              omega (arith, w.task),
              ap s.busy (sym k) ∙ w.unfinished,
              (w.some, omega (arith, w.most, ap (λ z. stated S x z (s.phase z) (s.piece z)) k)),
            )

    unfinished_none : (i : ℕ) → S.n ≤ i → get_or d.unfinished i 0 ≡ 0
    unfinished_none i h = go (get_or d.unfinished i 0) refl
      where
        go : (v : ℕ) → get_or d.unfinished i 0 ≡ v → get_or d.unfinished i 0 ≡ 0
        go zero e = e
        go (suc zero) e = absurd (true≢false (sym (ap (λ z. eqb z 1) e) ∙ f.state.none i h))
        go (suc (suc v)) e = absurd (omega (arith, f.binary i))

    now_of : (i : ℕ) → ChangingP i
    now_of i = (
      λ l. (f.state.since i, f.binary i, job_of i),
      λ l.
          let h : S.n ≤ i = omega arith in
          let z = f.state.idle i (f.state.none i h) in
          ((((omega (arith, f.state.since i, (f.held.table.no_task i h).no_spacing), unfinished_none i h), z.left), z.phase), z.piece),
    )

  -- THE TEST DECIDES THE RANGE
  pub range_decides : Long d → Decides (in_range d) (Fields d)
  unfolding in_range
  range_decides long =
      Decides-like _
      (λ h. fields_from long h.0.0 h.0.1 h.1)
      (λ f. ((f.held, λ i l. now_of f i), run_of f))
      (Decides-and _ _ (Decides-and _ _ (held_decides d long) (every 32 (changing_test d) ChangingP changing_decides))
      (run_decides s.run S.n (s.busy (s.run - 1)) s.ticks (stated S x (s.run - 1) (s.phase (s.run - 1)) (s.piece (s.run - 1)))))

pub range_fields : (d : Dispatcher) → Long d → in_range d ≡ true → Fields d
range_fields d long = (range_decides d long).0

pub fields_range : (d : Dispatcher) → Long d → Fields d → in_range d ≡ true
fields_range d long = (range_decides d long).1
