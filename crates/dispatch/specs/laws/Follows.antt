-- The four steps one after the other keep the promise `Ticks`: they are the rules' tick; and a tick has one outcome.
-- Assumes nothing.
use Rattle.std.specs.Prelude.{◌≡◌, Bool, true, not, ◌&&◌, ℕ, ◌+◌, ◌-◌, ◌^◌, ◌≤◌, ◌<◌}
use Rattle.std.proofs.Common.{sym, ap, ◌∙◌, arith}
use Rattle.std.proofs.Math.Bool.{and-eq-true_iff}
use Rattle.std.specs.Int.Count.{ones}
use Rattle.finite.specs.Masks.{bit, count_of, mask_of}
use Rattle.finite.proofs.laws.Masks.{asked_split, mask_of_alike, ones_mask_of}
use Rattle.model.specs.Phase.{Choice}
use Rattle.model.specs.Tasks.{Tasks}
use Rattle.promise.specs.Rules.{State, admit, answer_by, elapse, lets_in, pick, work_at}
use Rattle.promise.proofs.laws.Answers.{answer_lets}
use Rattle.records.specs.Ranges.{in_range, usable}
use Rattle.records.specs.Record.{record_of, request_of, state_in}
use Rattle.records.specs.Held.{counts_in, held_in, tasks_in}
use Rattle.records.specs.declared.Dispatcher.{Dispatcher}
use Rattle.records.proofs.laws.Fields.{Fields, Long}
use Rattle.records.proofs.laws.InRange.{range_fields}
use Rattle.dispatch.specs.Steps.{Admits, Elapses, Picks, WorksOn, ran_of}
use Rattle.dispatch.specs.Tick.{Ticks, answer_for, record_after, rules_answer}
use Rattle.dispatch.specs.declared.Answer as code
use Rattle.dispatch.specs.declared.steps.Ran.{Ran}
use Rattle.dispatch.specs.laws.Keeps.{Keeps, admit_keeps, pick_keeps, work_keeps}
use Rattle.dispatch.specs.laws.Reads.{own_keeps, ranged, reads}

-- the answer, made of what the steps answer
abbrev pub answer_with : ℕ → ℕ → Ran → code.Answer
answer_with asked entered ran = record {
  admitted = entered;
  away = asked - entered;
  number = ones entered;
  task = ran.task;
  phase = ran.phase;
  piece = ran.piece;
  ended = ran.ended;
  finished = ran.finished;
}

first_of_four : (a b c e : Bool) → (a && b && c && e) ≡ true → a ≡ true
first_of_four a b c e h = ((and-eq-true_iff a b).0 ((and-eq-true_iff (a && b) c).0 ((and-eq-true_iff (a && b && c) e).0 h).0).0).0

-- what is let in and what is turned away make up the mask
asked_parts : (S : Tasks) (s : State) (asked : ℕ) → asked < 2 ^ 32 → mask_of 32 (lets_in S s (bit asked)) + mask_of 32 (λ i. bit asked i && not (lets_in S s (bit asked) i)) ≡ asked
unfolding lets_in
asked_parts S s asked l = asked_split 32 asked (lets_in S s (bit asked)) l (λ i h b. first_of_four _ _ _ _ b)

-- so that no more is let in than asked
pub entered_most : (d : Dispatcher) (asked : ℕ) (next : Dispatcher) (entered : ℕ) → asked < 2 ^ 32 → Admits d asked next entered → entered ≤ asked
entered_most d asked next entered l h = omega (arith, h.answered, asked_parts (tasks_in d) (state_in d) asked l)

-- ---- the four steps
module _ (d : Dispatcher) (f : Fields d) (asked : ℕ) (flag : Bool) (a b c next : Dispatcher) (entered : ℕ) (ran : Ran)
    (admits : Admits d asked a entered) (picked : Picks a b) (worked : WorksOn b flag c ran) (elapsed : Elapses c next) where
  abbrev S : Tasks
  S = tasks_in d

  abbrev x : Choice
  x = counts_in d

  abbrev s : State
  s = state_in d

  abbrev s₁ : State
  s₁ = admit S (bit asked) s

  abbrev s₂ : State
  s₂ = pick S x s₁

  abbrev s₃ : State
  s₃ = work_at S x flag s₂ s₂.run

  keeps₁ : Keeps S x s₁
  keeps₁ = admit_keeps S x (ranged d f) s (own_keeps d f) (bit asked)

  keeps₂ : Keeps S x s₂
  keeps₂ = pick_keeps S x (ranged d f) s₁ keeps₁

  keeps₃ : Keeps S x s₃
  keeps₃ = work_keeps S x (ranged d f) s₂ keeps₂ flag

  picked_is : b ≡ record_of (held_in d) s₂
  picked_is =
      picked.moved ∙ ap (λ (r : Dispatcher). record_of (held_in r) (pick (tasks_in r) (counts_in r) (state_in r))) admits.moved ∙
      reads d f s₁ keeps₁ (λ h s. record_of h (pick h.table h.counts s))

  worked_is : c ≡ record_of (held_in d) s₃
  worked_is =
      worked.moved ∙ ap (λ (r : Dispatcher). record_of (held_in r) (work_at (tasks_in r) (counts_in r) flag (state_in r) r.running)) picked_is ∙
      reads d f s₂ keeps₂ (λ h s. record_of h (work_at h.table h.counts flag s s.run))

  next_is : next ≡ record_after d (request_of asked flag)
  next_is =
      elapsed.moved ∙ ap (λ (r : Dispatcher). record_of (held_in r) (elapse (tasks_in r) (state_in r))) worked_is ∙
      reads d f s₃ keeps₃ (λ h s. record_of h (elapse h.table s))

  ran_is : ran ≡ ran_of (rules_answer d (request_of asked flag))
  ran_is =
      worked.answered (lets_in S s (bit asked)) ∙
      ap (λ (r : Dispatcher). ran_of (answer_by (tasks_in r) (counts_in r) (lets_in S s (bit asked)) flag (state_in r) r.running)) picked_is ∙
      reads d f s₂ keeps₂ (λ h s'. ran_of (answer_by h.table h.counts (lets_in S s (bit asked)) flag s' s'.run))

  lets_is : (i : ℕ) → lets_in S s (bit asked) i ≡ (rules_answer d (request_of asked flag)).let_in i
  lets_is i = sym (answer_lets S x (lets_in S s (bit asked)) flag s₂ s₂.run i)

  entered_is : entered ≡ mask_of 32 (rules_answer d (request_of asked flag)).let_in
  entered_is = admits.answered ∙ mask_of_alike 32 (lets_in S s (bit asked)) (rules_answer d (request_of asked flag)).let_in (λ i l. lets_is i)

  away_is : asked < 2 ^ 32 → asked - entered ≡ mask_of 32 (λ i. bit asked i && not ((rules_answer d (request_of asked flag)).let_in i))
  away_is l =
      let e : asked - entered ≡ mask_of 32 (λ i. bit asked i && not (lets_in S s (bit asked) i)) = omega (arith, admits.answered, asked_parts S s asked l) in
      e ∙
      mask_of_alike 32 (λ i. bit asked i && not (lets_in S s (bit asked) i)) (λ i. bit asked i && not ((rules_answer d (request_of asked flag)).let_in i))
      (λ i h. ap (λ b. bit asked i && not b) (lets_is i))

  answer_is : asked < 2 ^ 32 → answer_with asked entered ran ≡ answer_for asked (rules_answer d (request_of asked flag))
  answer_is l =
      λ k. record {
        admitted = entered_is k;
        away = away_is l k;
        number = ones (entered_is k);
        task = (ran_is k).task;
        phase = (ran_is k).phase;
        piece = (ran_is k).piece;
        ended = (ran_is k).ended;
        finished = (ran_is k).finished;
      }

-- ---- the tick

-- of a record d that is taken as e, which goes through the four steps
pub ticks_by : (d e : Dispatcher) → e ≡ usable d → Long e → in_range e ≡ true → (mask : ℕ) (flag : Bool) → mask < 2 ^ 32 →
    (a b c next : Dispatcher) (entered : ℕ) (ran : Ran) (r : code.Answer) →
    Admits e mask a entered → Picks a b → WorksOn b flag c ran → Elapses c next → r ≡ answer_with mask entered ran → Ticks d mask flag next r
ticks_by d e u long range mask flag l a b c next entered ran r h₁ h₂ h₃ h₄ h =
    let f : Fields e = range_fields e long range in
    let answered : r ≡ answer_for mask (rules_answer e (request_of mask flag)) = h ∙ answer_is e f mask flag a b c next entered ran h₁ h₂ h₃ h₄ l in
    record {
      moved = next_is e f mask flag a b c next entered ran h₁ h₂ h₃ h₄ ∙ ap (λ (z : Dispatcher). record_after z (request_of mask flag)) u;
      answered = answered ∙ ap (λ (z : Dispatcher). answer_for mask (rules_answer z (request_of mask flag))) u;
      number =
          ap (λ (z : code.Answer). z.number) answered ∙
          ones_mask_of 32 (rules_answer e (request_of mask flag)).let_in ∙
          ap (λ (z : Dispatcher). count_of 32 (rules_answer z (request_of mask flag)).let_in) u;
    }

-- two outcomes that the promise allows are equal
pub ticks_unique : (d : Dispatcher) (mask : ℕ) (flag : Bool) (next next' : Dispatcher) (r r' : code.Answer) → Ticks d mask flag next r → Ticks d mask flag next' r' → (next ≡ next') × (r ≡ r')
ticks_unique d mask flag next next' r r' h h' = (h.moved ∙ sym h'.moved, h.answered ∙ sym h'.answered)
