-- Whatever runs is run in order, whoever goes first: the second part of demand 3. It asks nothing of the judge.
-- Assumes nothing.
use Rattle.std.proofs.Math.Decide.{ℕ_discrete}
use Rattle.std.specs.Prelude.{eqb, ◌≡◌, Bool, ◌&&◌, ◌||◌, false, true}
use Prim.Native.Nat.{ℕ, zero, suc, ◌≤◌, ◌<◌}
use Rattle.std.proofs.Math.Path.{refl, sym, ap, ap₂, subst}
use Rattle.std.proofs.Common.{◌∙◌, true≢false, arith}
use Rattle.std.proofs.Math.Bool.{cond}
use Rattle.finite.specs.Finite.{Some}
use Rattle.finite.proofs.laws.Tests.{by_cases}
use Rattle.model.specs.Phase.{Choice}
use Rattle.model.specs.Tasks.{Tasks}
use Rattle.promise.specs.History.{Place, last_place, next_place, place_before, used_before}
use Rattle.promise.specs.Promise.{FinishesIn, InOrder}
use Rattle.promise.specs.Rules.{Answer, State, outcome, stated, work_at}
use Rattle.promise.proofs.laws.Answers.{AnswersAt, answer_at_lem, answer_lets, answer_pass, answer_ran, pick_running}
use Rattle.promise.proofs.laws.Busy.{Stays, pick_busy, work_stays}
use Rattle.promise.specs.laws.Late.{Chooses, LateRequest, ageless, late_answer_at, late_record_at, lets_in_at}
use Rattle.promise.proofs.laws.Lengths.{InUse, goes_on_running, picked_use, use_ends, use_less, worked_use}
use Rattle.promise.proofs.laws.Places.{InPlace, here_place, last_ends, picked_places, place_alike, placed, worked_places}
use Rattle.promise.proofs.laws.Remaining.{Proper, Ranged}
use Rattle.promise.proofs.laws.Ticking.{ask_at, entered_at, late_proper, pass_at, picked_proper, picked_at}
use Rattle.promise.proofs.laws.Working.{outcome_is, pass_of}

module _ (S : Tasks) (x : Choice) (ranged : (i : ℕ) → i < S.n → Ranged S x i) (lag : ℕ) (choose : State → ℕ) (chosen : Chooses S choose) (ask : ℕ → LateRequest) where
  abbrev h : ℕ → Answer
  h t = late_answer_at S x lag choose ask t

  abbrev before : ℕ → State
  before t = late_record_at S x lag choose ask t

  -- the record in tick t after admission and picking
  abbrev now : ℕ → State
  now t = picked_at S x lag choose ask t

  now_proper : (t : ℕ) → Proper S x (now t)
  now_proper = picked_proper S x ranged lag choose chosen ask

  -- the tasks let in
  abbrev lets : ℕ → ℕ → Bool
  lets t = lets_in_at S lag (before t) (ask t).mask (ask t).age

  -- ---- the answer's parts
  ran_is : (t : ℕ) → (h t).ran ≡ (now t).run
  unfolding late_answer_at
  ran_is t = answer_ran S x _ (ask t).flag (now t) (now t).run

  ended_is : (t : ℕ) → (h t).ended ≡ (pass_of S x (ask t).flag (now t) (now t).run).ended
  unfolding late_answer_at
  ended_is t = (answer_pass S x _ (ask t).flag (now t) (now t).run).ended

  pub finished_is : (t : ℕ) → (h t).finished ≡ (pass_at S x lag choose ask t).finished
  unfolding late_answer_at
  finished_is t = (answer_pass S x _ (ask t).flag (now t) (now t).run).finished

  pub pass_ran : (t : ℕ) → (pass_at S x lag choose ask t).ran ≡ (h t).ran
  unfolding late_answer_at
  pass_ran t = sym (answer_pass S x _ (ask t).flag (now t) (now t).run).ran

  pub pass_flag : (t : ℕ) → (pass_at S x lag choose ask t).flag ≡ (ask t).flag
  pass_flag t = (answer_pass S x (λ i. false) (ask t).flag (now t) (now t).run).flagged

  pub let_in_is : (t i : ℕ) → (h t).let_in i ≡ (ask_at S x lag choose ask t).let_in i
  unfolding late_answer_at
  let_in_is t i = answer_lets S x _ (ask t).flag (now t) (now t).run i

  -- ---- the pieces
  -- the place due of each task before tick t
  abbrev due : ℕ → ℕ → Place
  due t i = place_before S x h i t

  picked_now : (t : ℕ) → InPlace (before t) (due t) → InPlace (now t) (due t)
  picked_now t ip = picked_places S x lag choose (before t) (ask t).mask (ask t).age (due t) ip

  pub places : (t : ℕ) → InPlace (before t) (due t)
  unfolding late_record_at place_before
  places zero = record { job = λ i b. absurd (true≢false (sym b)); idle = λ i b. refl }
  places (suc t) =
      let a = worked_places S x lag (now t) (now_proper t) (due t) (picked_now t (places t)) (ask t).flag (now t).run refl in
      record { job = λ i b. step i ∙ a.job i b; idle = λ i b. step i ∙ a.idle i b }
    where
      step : (i : ℕ)
          → place_before S x h i (suc t) ≡ placed S x (now t).run (pass_of S x (ask t).flag (now t) (now t).run).ended (due t) i
      step i = ap₂ (λ r e. cond (eqb r (suc i) && e) (next_place S x i (place_before S x h i t)) (place_before S x h i t)) (ran_is t) (ended_is t)

  now_places : (t : ℕ) → InPlace (now t) (due t)
  now_places t = picked_now t (places t)

  used_now : (t : ℕ) → InUse S x (before t) (used_before h t) → InUse S x (now t) (used_before h t)
  used_now t iu =
      picked_use S x lag choose (before t) (late_proper S x ranged lag choose chosen ask t) (ask t).mask (ask t).age (used_before h t) iu

  uses : (t : ℕ) → InUse S x (before t) (used_before h t)
  unfolding late_record_at used_before
  uses zero = record { running = λ j r. absurd (omega arith); resting = λ r. refl }
  uses (suc t) =
      subst
      (InUse S x (before (suc t)))
      (sym (ap₂ (λ r e. cond (eqb r 0 || e) 0 (suc (used_before h t))) (ran_is t) (ended_is t)))
      (worked_use S x lag (now t) (now_proper t) (used_before h t) (used_now t (uses t)) (ask t).flag (now t).run refl)

  now_uses : (t : ℕ) → InUse S x (now t) (used_before h t)
  now_uses t = used_now t (uses t)

  -- ---- whoever has an unfinished job was let in, and has not finished since
  abbrev LetInBy : ℕ → ℕ → Type 0
  LetInBy t i = Some (suc t) (λ r. ((h r).let_in i ≡ true) × ((k : ℕ) → r ≤ k → k < t → ¬ FinishesIn h i k))

  -- from tick t to the next
  later : (t i : ℕ) → ¬ FinishesIn h i t → LetInBy t i → LetInBy (suc t) i
  later t i f (r, l, (e, g)) = (r, omega arith, (e, λ k a b. go k a (ℕ_discrete k t) b))
    where
      go : (k : ℕ) → r ≤ k → Dec (k ≡ t) → k < suc t → ¬ FinishesIn h i k
      go k a (yes q) b = rw q f
      go k a (no q) b = g k a (omega arith)

  stays : (t i : ℕ) → (before (suc t)).busy i ≡ true → ((now t).busy i ≡ true) × ¬ FinishesIn h i t
  unfolding late_record_at
  stays t i b =
      let σ : Stays S x (now t) i (now t).run (pass_at S x lag choose ask t).finished = work_stays S x (ask t).flag (now t) i (now t).run b in
      (σ.busy, λ f. σ.unfinished (sym (ran_is t) ∙ f.ran, sym (finished_is t) ∙ f.finished))

  let_in_now : (t i : ℕ) → lets t i ≡ true → LetInBy t i
  let_in_now t i e = (t, omega arith, (let_in_is t i ∙ e, λ k a c. absurd (omega arith)))

  was_busy : (t i : ℕ) → (now t).busy i ≡ true → lets t i ≡ false → (before t).busy i ≡ true
  was_busy t i b e =
      sym (ap (λ (v : Bool). v || (before t).busy i) e) ∙
      sym (pick_busy S x choose (entered_at S x lag choose ask t) i) ∙
      b

  let_in_by : (t i : ℕ) → (now t).busy i ≡ true → LetInBy t i
  unfolding late_record_at
  let_in_by zero i b = by_cases (lets 0 i) (let_in_now 0 i) (λ e. absurd (true≢false (sym (was_busy 0 i b e))))
  let_in_by (suc t) i b =
      by_cases (lets (suc t) i) (let_in_now (suc t) i)
      (λ e. let (before, unfinished) = stays t i (was_busy (suc t) i b e) in later t i unfinished (let_in_by t i before))

  module _ (t i : ℕ) (e : (h t).ran ≡ suc i) where
    runs_now : (now t).run ≡ suc i
    runs_now = sym (ran_is t) ∙ e

    at : AnswersAt S x (ask t).flag (now t) i (h t)
    unfolding late_answer_at
    at = answer_at_lem S x _ (ask t).flag (now t) (now t).run i runs_now

    next_run : (h t).ended ≡ false → (before (suc t)).run ≡ suc i
    unfolding late_record_at
    next_run f =
        ap (λ r. (work_at S x (ask t).flag (now t) r).run) runs_now ∙
        goes_on_running S x lag (now t) (now_proper t) (used_before h t) (now_uses t) (ask t).flag i runs_now (sym at.ended ∙ f)

    pub piece_in_order : InOrder S x (λ t. ageless (ask t)) h i t
    piece_in_order =
        let length : stated S x i (h t).phase (h t).piece ≡ stated S x i ((now t).phase i) ((now t).piece i) =
        ap₂ (stated S x i) at.phase at.piece in
        let less = use_less S x lag (now t) (now_proper t) (used_before h t) (now_uses t) (ask t).flag i runs_now in
        let ends = use_ends S x lag (now t) (now_proper t) (used_before h t) (now_uses t) (ask t).flag i runs_now in
        let last =
        last_ends S x lag (now t) (now_proper t) (due t) (now_places t) (ask t).flag i runs_now (outcome S x (ask t).flag (now t) i) (outcome_is S x (ask t).flag (now t) i) in
        record {
          task = ((now_proper t).runs i runs_now).task;
          job = let_in_by t i ((now_proper t).runs i runs_now).unfinished;
          place = place_alike at.phase at.piece ∙
              sym (here_place S x lag (now t) (now_proper t) (due t) (now_places t) (ask t).flag i runs_now);
          length = omega (arith, less, length);
          ends = at.ended ∙ ends ∙ ap (λ z. (ask t).flag || eqb (suc (used_before h t)) z) (sym length);
          unbroken = λ f. ran_is (suc t) ∙ pick_running S x choose (entered_at S x lag choose ask (suc t)) i _ refl (next_run f);
          finishes = at.finished ∙ last ∙ ap (λ v. v && last_place S x i (place_before S x h i t)) (sym at.ended);
        }
