-- A job's pieces run in order: the place in the record is the place worked out from the history.
-- Assumes nothing.
use Rattle.std.specs.Prelude.{ℕ, zero, suc, ◌+◌, ◌-◌, ◌≡◌, refl, Bool, true, false, cond, not, ◌&&◌, ◌||◌, ltb, eqb}
use Rattle.std.proofs.Common.{sym, ap, ap₂, ◌∙◌, subst, true≢false, arith, lt-ltb, le-ltb, eq-eqb, ne_eqb}
use Rattle.std.proofs.Math.Decide.{ℕ_discrete}
use Rattle.std.proofs.lemmas.Bool.{not-true, not-false, cond-false, cond-true}
use Rattle.model.specs.Phase.{Choice}
use Rattle.model.specs.Tasks.{Tasks}
use Rattle.promise.specs.History.{Place, first_place, last_place, next_place}
use Rattle.promise.specs.Rules.{PieceOutcome, State, after, done, ends_of, finishes_of, next_phase, next_piece, on, outcome, start, work_at}
use Rattle.promise.proofs.laws.Entering.{LetIn, let_in_lem}
use Rattle.promise.specs.laws.Late.{admit_at, elapse_at, lets_in_at, pick_by, pick_by_at}
use Rattle.promise.proofs.laws.Remaining.{Proper, put_same}
use Rattle.promise.proofs.laws.Working.{OutcomeOf, other_fields, outcome_is, pass_of}

pub place_alike : {a b c d : ℕ} → a ≡ c → b ≡ d → ◌≡◌ {A = Place} (record { phase = a; piece = b }) (record { phase = c; piece = d })
place_alike p q = λ k. record { phase = p k; piece = q k }

-- each task is at the place due, and a task with no unfinished job at the first
pub record InPlace (s : State) (place : ℕ → Place) : Type 0 where
  pub job : (i : ℕ) → s.busy i ≡ true → place i ≡ record { phase = s.phase i; piece = s.piece i }
  pub idle : (i : ℕ) → s.busy i ≡ false → place i ≡ first_place

-- the place of task i after a tick in which task r ran (from 1; 0: none) and its piece ended or not
abbrev pub placed : Tasks → Choice → ℕ → Bool → (ℕ → Place) → ℕ → Place
placed S x r ended place i = cond (eqb r (suc i) && ended) (next_place S x i (place i)) (place i)

module _ (S : Tasks) (x : Choice) (lag : ℕ) where
  admit_places : (s : State) (mask : ℕ → Bool) (age : ℕ → ℕ) (place : ℕ → Place) → InPlace s place → InPlace (admit_at S lag mask age s) place
  admit_places s mask age place ip = record { job = λ i. job i (lets_in_at S lag s mask age i) (let_in_lem S lag s mask age i); idle = λ i. idle i (lets_in_at S lag s mask age i) }
    where
      job : (i : ℕ) (v : Bool) → (v ≡ true → LetIn S lag s age i) → (v || s.busy i) ≡ true
          → place i ≡ record { phase = cond v 1 (s.phase i); piece = cond v 1 (s.piece i) }
      job i true enters b = ip.idle i (enters refl).idle
      job i false enters b = ip.job i b

      idle : (i : ℕ) (v : Bool) → (v || s.busy i) ≡ false → place i ≡ first_place
      idle i true b = absurd (true≢false b)
      idle i false b = ip.idle i b

  start_places : (s : State) (place : ℕ → Place) → InPlace s place → (b : ℕ) → InPlace (start S x s b) place
  start_places s place ip zero = ip
  start_places s place ip (suc j) = record { job = ip.job; idle = ip.idle }

  pick_places : (choose : State → ℕ) (s : State) (place : ℕ → Place) → InPlace s place → (r : ℕ) → InPlace (pick_by_at S x choose s r) place
  pick_places choose s place ip zero = start_places s place ip (choose s)
  pick_places choose s place ip (suc j) = ip

  pub picked_places : (choose : State → ℕ) (s : State) (mask : ℕ → Bool) (age : ℕ → ℕ) (place : ℕ → Place) → InPlace s place
      → InPlace (pick_by S x choose (admit_at S lag mask age s)) place
  picked_places choose s mask age place ip = pick_places choose (admit_at S lag mask age s) place (admit_places s mask age place ip) s.run

  module _ (s : State) (ok : Proper S x s) (place : ℕ → Place) (ip : InPlace s place) (flag : Bool) (j : ℕ) (r : s.run ≡ suc j) where
    ran_own : eqb (suc j) (suc j) ≡ true
    ran_own = eq-eqb (suc j) (suc j) refl

    ran_other : (i : ℕ) → (i ≡ j → ⊥) → eqb (suc j) (suc i) ≡ false
    ran_other i q = ne_eqb (suc j) (suc i) (λ e. q (omega arith))

    stays : (ended : Bool) (i : ℕ) → (i ≡ j → ⊥) → placed S x (suc j) ended place i ≡ place i
    stays ended i q = ap (λ v. cond (v && ended) (next_place S x i (place i)) (place i)) (ran_other i q)

    moves : (ended : Bool) → placed S x (suc j) ended place j ≡ cond ended (next_place S x j (place j)) (place j)
    moves ended = ap (λ v. cond (v && ended) (next_place S x j (place j)) (place j)) ran_own

    pub here_place : place j ≡ record { phase = s.phase j; piece = s.piece j }
    here_place = ip.job j (ok.runs j r).unfinished

    -- the place after the outcome o, of the running task
    own : (o : PieceOutcome) → OutcomeOf S x flag s j o → cond (ends_of o) (next_place S x j (place j)) (place j) ≡
        cond (finishes_of o) first_place (record { phase = (after s j o).phase j; piece = (after s j o).piece j })
    own on h = here_place
    own next_piece h =
        ap (next_place S x j) here_place ∙
        cond-true (ltb (s.piece j) (x j (s.phase j - 1))) _ _ (lt-ltb (s.piece j) (x j (s.phase j - 1)) h.1) ∙
        place_alike refl (sym (put_same s.piece j (s.piece j + 1)))
    own next_phase h =
        ap (next_place S x j) here_place ∙
        cond-false (ltb (s.piece j) (x j (s.phase j - 1))) _ _ (le-ltb (s.piece j) (x j (s.phase j - 1)) h.1) ∙
        cond-true (ltb (s.phase j) (S.m j)) _ _ (lt-ltb (s.phase j) (S.m j) h.2) ∙
        place_alike (sym (put_same s.phase j (s.phase j + 1))) (sym (put_same s.piece j 1))
    own done h =
        ap (next_place S x j) here_place ∙
        cond-false (ltb (s.piece j) (x j (s.phase j - 1))) _ _ (le-ltb (s.piece j) (x j (s.phase j - 1)) h.1) ∙
        cond-false (ltb (s.phase j) (S.m j)) _ _ (le-ltb (s.phase j) (S.m j) h.2)

    -- a job finishes where its last piece ends
    pub last_ends : (o : PieceOutcome) → OutcomeOf S x flag s j o → finishes_of o ≡ (ends_of o && last_place S x j (place j))
    last_ends on h = refl
    last_ends next_piece h =
        sym (ap (last_place S x j) here_place ∙ ap (λ v. not v && not (ltb (s.phase j) (S.m j))) (lt-ltb (s.piece j) (x j (s.phase j - 1)) h.1))
    last_ends next_phase h =
        sym (ap (last_place S x j) here_place ∙ ap₂ (λ u v. not u && not v) (le-ltb (s.piece j) (x j (s.phase j - 1)) h.1) (lt-ltb (s.phase j) (S.m j) h.2))
    last_ends done h =
        sym (ap (last_place S x j) here_place ∙ ap₂ (λ u v. not u && not v) (le-ltb (s.piece j) (x j (s.phase j - 1)) h.1) (le-ltb (s.phase j) (S.m j) h.2))

    busy_own : (o : PieceOutcome) → (after s j o).busy j ≡ not (finishes_of o)
    busy_own on = (ok.runs j r).unfinished
    busy_own next_piece = (ok.runs j r).unfinished
    busy_own next_phase = (ok.runs j r).unfinished
    busy_own done = put_same s.busy j false

    after_places : (o : PieceOutcome) → OutcomeOf S x flag s j o → InPlace (after s j o) (placed S x (suc j) (ends_of o) place)
    after_places o h = record { job = λ i b. job i b (ℕ_discrete i j); idle = λ i b. idle i b (ℕ_discrete i j) }
      where
        job : (i : ℕ) → (after s j o).busy i ≡ true → Dec (i ≡ j)
            → placed S x (suc j) (ends_of o) place i ≡ record { phase = (after s j o).phase i; piece = (after s j o).piece i }
        job i b (no q) =
            let (busy, phase, piece) = other_fields s j o i q in
            stays (ends_of o) i q ∙ ip.job i (sym busy ∙ b) ∙ place_alike (sym phase) (sym piece)
        job i b (yes q) =
            subst
            (λ i. placed S x (suc j) (ends_of o) place i ≡ record { phase = (after s j o).phase i; piece = (after s j o).piece i })
            (sym q)
            (moves (ends_of o) ∙ own o h ∙ cond-false (finishes_of o) _ _ (not-true (finishes_of o) (sym (busy_own o) ∙ subst (λ i. (after s j o).busy i ≡ true) q b)))

        idle : (i : ℕ) → (after s j o).busy i ≡ false → Dec (i ≡ j) → placed S x (suc j) (ends_of o) place i ≡ first_place
        idle i b (no q) = stays (ends_of o) i q ∙ ip.idle i (sym (other_fields s j o i q).0 ∙ b)
        idle i b (yes q) =
            subst
            (λ i. placed S x (suc j) (ends_of o) place i ≡ first_place)
            (sym q)
            (moves (ends_of o) ∙ own o h ∙ cond-true (finishes_of o) _ _ (not-false (finishes_of o) (sym (busy_own o) ∙ subst (λ i. (after s j o).busy i ≡ false) q b)))

  -- the places after a tick
  pub worked_places : (s : State) → Proper S x s → (place : ℕ → Place) → InPlace s place → (flag : Bool) (r : ℕ) → s.run ≡ r
      → InPlace (elapse_at S lag (work_at S x flag s r)) (placed S x r (pass_of S x flag s r).ended place)
  worked_places s ok place ip flag zero e = record { job = λ i b. none i ∙ ip.job i b; idle = λ i b. none i ∙ ip.idle i b }
    where
      none : (i : ℕ) → placed S x 0 false place i ≡ place i
      none i = ap (λ v. cond (v && false) (next_place S x i (place i)) (place i)) (ne_eqb 0 (suc i) (λ e. omega arith))
  worked_places s ok place ip flag (suc j) e =
      let a : InPlace (after s j (outcome S x flag s j)) (placed S x (suc j) (ends_of (outcome S x flag s j)) place) =
      after_places s ok place ip flag j e (outcome S x flag s j) (outcome_is S x flag s j) in
      record { job = a.job; idle = a.idle }
