-- The tick that the running piece uses, by the rules and as the argument sees it.
-- Assumes nothing.
use Rattle.std.specs.Prelude.{ℕ, zero, suc, ◌+◌, ◌-◌, ◌≤◌, ◌<◌, ◌≡◌, Bool, cond, ◌||◌, ltb}
use Rattle.std.proofs.Math.Path.{refl}
use Rattle.std.proofs.Common.{sym, ap, ap₂, ◌∙◌, subst, subst₂, true≢false, arith}
use Rattle.std.proofs.Math.Bool.{true, false}
use Rattle.std.proofs.Math.Decide.{ℕ_discrete}
use Rattle.std.proofs.Math.Dec.{leb}
use borrow.Author.Tests.{ltb-true, ltb-false, leb-true, leb-false}
use Rattle.std.proofs.lemmas.Bool.{or_parts}
use Rattle.model.specs.Phase.{Choice, phases_of}
use Rattle.model.specs.Tasks.{Tasks}
use Rattle.promise.specs.Rules.{PieceOutcome, State, after, done, ends_of, finishes_of, next_phase, next_piece, on, outcome, work_at}
use Rattle.promise.proofs.laws.Remaining.{At, Proper, Ranged, RunsAt, finished_all, finished_most, finished_next, finished_phase, finished_work, put_other, put_same, remaining, remaining_not, remaining_run, stated_some, terms, view}
use Rattle.promise.proofs.laws.View.{GoesOn, Pass, Unchanged, Unfinished, Used, Worked, idles, works}

-- the fields of a task that does not run stay
pub other_fields : (s : State) (j : ℕ) (o : PieceOutcome) (i : ℕ) → (i ≡ j → ⊥)
    → ((after s j o).busy i ≡ s.busy i) × ((after s j o).phase i ≡ s.phase i) × ((after s j o).piece i ≡ s.piece i)
other_fields s j on i q = (refl, refl, refl)
other_fields s j next_piece i q = (refl, refl, put_other s.piece j (s.piece j + 1) i q)
other_fields s j next_phase i q = (refl, put_other s.phase j (s.phase j + 1) i q, put_other s.piece j 1 i q)
other_fields s j done i q = (put_other s.busy j false i q, put_other s.phase j 0 i q, put_other s.piece j 0 i q)

-- what the tick answers of the task r (from 1; 0: none) that runs, as the argument sees it
abbrev pub pass_of : Tasks → Choice → Bool → State → ℕ → Pass
pass_of S x flag s zero = record { flag = flag; ran = 0; ended = false; finished = false }
pass_of S x flag s (suc j) = record { flag = flag; ran = suc j; ended = ends_of (outcome S x flag s j); finished = finishes_of (outcome S x flag s j) }

module _ (S : Tasks) (x : Choice) where
  -- what each outcome says of the running task j
  abbrev pub OutcomeOf : Bool → State → ℕ → PieceOutcome → Type 0
  OutcomeOf flag s j on = 2 ≤ s.ticks
  OutcomeOf flag s j next_piece = (flag ≡ false → s.ticks ≤ 1) × (s.piece j < x j (s.phase j - 1))
  OutcomeOf flag s j next_phase = (flag ≡ false → s.ticks ≤ 1) × (x j (s.phase j - 1) ≤ s.piece j) × (s.phase j < S.m j)
  OutcomeOf flag s j done = (flag ≡ false → s.ticks ≤ 1) × (x j (s.phase j - 1) ≤ s.piece j) × (S.m j ≤ s.phase j)

  pub outcome_is : (flag : Bool) (s : State) (j : ℕ) → OutcomeOf flag s j (outcome S x flag s j)
  unfolding outcome
  outcome_is flag s j =
      go
      (flag || leb s.ticks 1)
      (ltb (s.piece j) (x j (s.phase j - 1)))
      (ltb (s.phase j) (S.m j))
      (λ e. leb-false s.ticks 1 (or_parts flag (leb s.ticks 1) e).1)
      (λ e f. leb-true s.ticks 1 (sym (ap (λ (v : Bool). v || leb s.ticks 1) f) ∙ e))
      refl
      refl
    where
      go : (v y z : Bool) → (v ≡ false → 2 ≤ s.ticks) → (v ≡ true → flag ≡ false → s.ticks ≤ 1) → ltb (s.piece j) (x j (s.phase j - 1)) ≡ y
          → ltb (s.phase j) (S.m j) ≡ z → OutcomeOf flag s j (cond v (cond y next_piece (cond z next_phase done)) on)
      go false y z a b c d = a refl
      go true true z a b c d = (b refl, ltb-true (s.piece j) (x j (s.phase j - 1)) c)
      go true false true a b c d = (b refl, ltb-false (s.piece j) (x j (s.phase j - 1)) c, ltb-true (s.phase j) (S.m j) d)
      go true false false a b c d = (b refl, ltb-false (s.piece j) (x j (s.phase j - 1)) c, ltb-false (s.phase j) (S.m j) d)

module _ (S : Tasks) (x : Choice) (ranged : (i : ℕ) → i < S.n → Ranged S x i) (lag : ℕ) where
  module _ (s : State) (ok : Proper S x s) (j : ℕ) (r : s.run ≡ suc j) where
    ρ : RunsAt S x s j
    ρ = ok.runs j r

    here : At S x j (s.phase j) (s.piece j)
    here = ok.job j ρ.task ρ.unfinished

    now : remaining S x s.run s.ticks j (s.phase j) (s.piece j) ≡ s.ticks + ((phases_of S).budget x j - finished_work S x j (s.phase j) (s.piece j))
    now = remaining_run S x s.run s.ticks j (s.phase j) (s.piece j) r

    -- a task that does not run keeps its work
    other_rem : (run ticks i ph pc : ℕ) → (i ≡ j → ⊥) → (run ≡ suc i → ⊥) → ph ≡ s.phase i → pc ≡ s.piece i →
        remaining S x run ticks i ph pc ≡ remaining S x s.run s.ticks i (s.phase i) (s.piece i)
    other_rem run ticks i ph pc q h e f =
        remaining_not S x run ticks i ph pc h ∙ ap₂ (λ a b. (phases_of S).budget x i - finished_work S x i a (b - 1)) e f ∙
        sym (remaining_not S x s.run s.ticks i (s.phase i) (s.piece i) (λ g. q (omega arith)))

    others : (o : PieceOutcome) (i : ℕ) → (i ≡ j → ⊥) → Unchanged (view S x s) (view S x (after s j o)) i
    others on i q =
        record {
          busy = refl;
          since = refl;
          left = refl;
          rem = other_rem s.run (s.ticks - 1) i (s.phase i) (s.piece i) q (λ g. q (omega arith)) refl refl;
        }
    others next_piece i q =
        record {
          busy = refl;
          since = refl;
          left = refl;
          rem = other_rem 0 0 i (s.phase i) _ q (λ g. omega arith) refl (put_other s.piece j (s.piece j + 1) i q);
        }
    others next_phase i q =
        record {
          busy = refl;
          since = refl;
          left = refl;
          rem = other_rem 0 0 i _ _ q (λ g. omega arith) (put_other s.phase j (s.phase j + 1) i q) (put_other s.piece j 1 i q);
        }
    others done i q =
        record {
          busy = put_other s.busy j false i q;
          since = refl;
          left = put_other s.left j 0 i q;
          rem = other_rem 0 0 i _ _ q (λ g. omega arith) (put_other s.phase j 0 i q) (put_other s.piece j 0 i q);
        }

    goes : 2 ≤ s.ticks → GoesOn (terms S x lag) j (view S x s) (view S x (after s j on))
    goes h =
        record {
          run = r;
          some = omega arith;
          used = omega arith;
          rem = omega (arith, now, remaining_run S x s.run (s.ticks - 1) j (s.phase j) (s.piece j) r);
        }

    -- the next piece, at phase ph and piece pc, has all of the work after this one, and some
    next : (ph pc : ℕ) → At S x j ph pc → finished_work S x j ph (pc - 1) ≡ finished_work S x j (s.phase j) (s.piece j) → (a b : ℕ) → a ≡ ph
        → b ≡ pc →
        (1 ≤ remaining S x 0 0 j a b) × (s.ticks + remaining S x 0 0 j a b ≡ remaining S x s.run s.ticks j (s.phase j) (s.piece j))
    next ph pc at e a b f g =
        let then : remaining S x 0 0 j a b ≡ (phases_of S).budget x j - finished_work S x j ph (pc - 1) =
        ap₂ (remaining S x 0 0 j) f g ∙ remaining_not S x 0 0 j ph pc (λ h. omega arith) in
        omega (
          arith,
          now,
          finished_next S x j (ranged j ρ.task) ph pc at,
          finished_most S x j (ranged j ρ.task) ph pc at,
          stated_some S x j (ranged j ρ.task) ph pc at,
        )

    at_piece : s.piece j < x j (s.phase j - 1) → At S x j (s.phase j) (s.piece j + 1)
    at_piece h = record { phase_least = here.phase_least; phase_at_most = here.phase_at_most; piece_least = omega arith; piece_at_most = omega arith }

    at_phase : s.phase j < S.m j → At S x j (s.phase j + 1) 1
    at_phase h =
        record {
          phase_least = omega arith;
          phase_at_most = omega arith;
          piece_least = omega arith;
          piece_at_most = (ranged j ρ.task).counted (s.phase j + 1 - 1) (omega arith);
        }

    -- what is left of an unfinished job: the ticks of the piece less
    pub record Leaves (flag : Bool) (s' : State) : Type 0 where
      pub unfinished : Unfinished (terms S x lag) j (view S x s) (view S x s')
      pub exact : flag ≡ false → (view S x s').rem j + 1 ≡ (view S x s).rem j

    leaves : (flag : Bool) (o : PieceOutcome) → OutcomeOf S x flag s j o → finishes_of o ≡ false → Leaves flag (after s j o)
    leaves flag on h f =
        let g : GoesOn (terms S x lag) j (view S x s) (view S x (after s j on)) = goes h in
        record {
          unfinished =
              record {
                busy = ρ.unfinished;
                left = refl;
                some = omega (arith, remaining_run S x s.run (s.ticks - 1) j (s.phase j) (s.piece j) r);
                less = omega (arith, g.rem);
              };
          exact = λ e. g.rem;
        }
    leaves flag next_piece (h, k) f =
        let e : s.piece j + 1 - 1 ≡ s.piece j = omega arith in
        let (some, sum) =
        next (s.phase j) (s.piece j + 1) (at_piece k) (ap (finished_work S x j (s.phase j)) e) _ _ refl (put_same s.piece j (s.piece j + 1)) in
        record { unfinished = record { busy = ρ.unfinished; left = refl; some = some; less = omega (arith, ρ) }; exact = λ e. omega (arith, ρ, h e) }
    leaves flag next_phase (h, k, l) f =
        let (some, sum) =
        next (s.phase j + 1) 1 (at_phase l) (finished_phase S x j (ranged j ρ.task) (s.phase j) (s.piece j) here k) _ _ (put_same s.phase j (s.phase j + 1)) (put_same s.piece j 1) in
        record { unfinished = record { busy = ρ.unfinished; left = refl; some = some; less = omega (arith, ρ) }; exact = λ e. omega (arith, ρ, h e) }
    leaves flag done h f = absurd (true≢false f)

    -- a job that finishes without a flag had one tick of work left
    last_tick : (flag : Bool) (o : PieceOutcome) → OutcomeOf S x flag s j o → flag ≡ false → finishes_of o ≡ true → (view S x s).rem j ≡ 1
    last_tick flag on h e f = absurd (true≢false (sym f))
    last_tick flag next_piece h e f = absurd (true≢false (sym f))
    last_tick flag next_phase h e f = absurd (true≢false (sym f))
    last_tick flag done (h, k, l) e f =
        omega (arith, now, ρ, h e, finished_all S x j (ranged j ρ.task) (s.phase j) (s.piece j) here l k)

    continues : (flag : Bool) (o : PieceOutcome) → OutcomeOf S x flag s j o → ends_of o ≡ false → GoesOn (terms S x lag) j (view S x s) (view S x (after s j o))
    continues flag on h e = goes h
    continues flag next_piece h e = absurd (true≢false e)
    continues flag next_phase h e = absurd (true≢false e)
    continues flag done h e = absurd (true≢false e)

    stops : (o : PieceOutcome) → ends_of o ≡ true → (after s j o).run ≡ 0
    stops on e = absurd (true≢false (sym e))
    stops next_piece e = refl
    stops next_phase e = refl
    stops done e = refl

    completes : (o : PieceOutcome) → finishes_of o ≡ true → ((after s j o).busy j ≡ false) × (ends_of o ≡ true)
    completes on e = absurd (true≢false (sym e))
    completes next_piece e = absurd (true≢false (sym e))
    completes next_phase e = absurd (true≢false (sym e))
    completes done e = (put_same s.busy j false, refl)

    same_since : (o : PieceOutcome) → (after s j o).since j ≡ s.since j
    same_since on = refl
    same_since next_piece = refl
    same_since next_phase = refl
    same_since done = refl

    uses : (flag : Bool) (o : PieceOutcome) → OutcomeOf S x flag s j o →
        Used (terms S x lag) j (record { flag = flag; ran = suc j; ended = ends_of o; finished = finishes_of o }) (view S x s) (view S x (after s j o))
    uses flag o h =
        record {
          ran = refl;
          others = λ i l. others o i;
          since = same_since o;
          on = continues flag o h;
          off = stops o;
          more = λ f. (leaves flag o h f).unfinished;
          done = completes o;
          exact_more = λ e f. (leaves flag o h f).exact e;
          exact_done = last_tick flag o h;
        }

    -- the running task is at a piece of its own, wherever its job is unfinished
    job_after : (flag : Bool) (o : PieceOutcome) → OutcomeOf S x flag s j o → (after s j o).busy j ≡ true
        → At S x j ((after s j o).phase j) ((after s j o).piece j)
    job_after flag on h b = here
    job_after flag next_piece h b = subst (At S x j (s.phase j)) (sym (put_same s.piece j (s.piece j + 1))) (at_piece h.1)
    job_after flag next_phase h b =
        subst₂ (At S x j) (sym (put_same s.phase j (s.phase j + 1))) (sym (put_same s.piece j 1)) (at_phase h.2)
    job_after flag done h b = absurd (true≢false (sym b ∙ put_same s.busy j false))

    runs_after : (flag : Bool) (o : PieceOutcome) → OutcomeOf S x flag s j o → (h : ℕ) → (after s j o).run ≡ suc h → RunsAt S x (after s j o) h
    runs_after flag on g h e =
        subst
        (RunsAt S x (after s j on))
        (omega arith)
        (record { task = ρ.task; unfinished = ρ.unfinished; some = omega arith; most = omega (arith, ρ) })
    runs_after flag next_piece g h e = absurd (omega arith)
    runs_after flag next_phase g h e = absurd (omega arith)
    runs_after flag done g h e = absurd (omega arith)

    after_proper : (flag : Bool) (o : PieceOutcome) → OutcomeOf S x flag s j o → Proper S x (after s j o)
    after_proper flag o h = record { job = λ i l b. job i l b (ℕ_discrete i j); runs = runs_after flag o h }
      where
        job : (i : ℕ) → i < S.n → (after s j o).busy i ≡ true → Dec (i ≡ j) → At S x i ((after s j o).phase i) ((after s j o).piece i)
        job i l b (yes q) =
            subst
            (λ i. At S x i ((after s j o).phase i) ((after s j o).piece i))
            (sym q)
            (job_after flag o h (subst (λ i. (after s j o).busy i ≡ true) q b))
        job i l b (no q) =
            let (busy, phase, piece) = other_fields s j o i q in
            subst₂ (At S x i) (sym phase) (sym piece) (ok.job i l (sym busy ∙ b))

  pub works_at : (flag : Bool) (s : State) → Proper S x s → (r : ℕ) → s.run ≡ r →
      Worked (terms S x lag) (pass_of S x flag s r) (view S x s) (view S x (work_at S x flag s r)) × Proper S x (work_at S x flag s r)
  works_at flag s ok zero e = (idles e refl refl refl, ok)
  works_at flag s ok (suc j) e = (
    works j e (uses s ok j e flag (outcome S x flag s j) (outcome_is S x flag s j)),
    after_proper s ok j e flag (outcome S x flag s j) (outcome_is S x flag s j),
  )
