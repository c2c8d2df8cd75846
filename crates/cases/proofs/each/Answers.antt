use Rattle.std.proofs.Common.{◌≡◌, ℕ, ◌+◌, ◌-◌, ◌^◌, ◌≤◌, ◌∷◌, [], ◌++◌, List, length, take, rules, arith, inl, inr, sym, ◌∙◌, subst, of_calls, refl}
use Rattle.std.specs.Prelude.{Option, Some, None, IfSome, Result}
use Rattle.std.specs.Fn.{Mut}
use denote.Ref.{Bor, MutBor}
use Rattle.std.proofs.lemmas.Fn.{FoldsTo-push, Called-on}
use Rattle.std.proofs.lemmas.List.{length-append, length-take-le}
use Rattle.std.proofs.lemmas.Result.{on_ok_weaker}
use Rattle.cases.specs.declared.Case.{Case}
use Rattle.cases.specs.declared.Case.TheVariants.{Cut}
use Rattle.std.specs.Io.KnownBytes.{Appends}
use Rattle.cases.specs.Cases.{next_on, cut_line, RunsOver, Stage, Turn, Turns}
use Rattle.cases.proofs.each.Goals as goal

-- What the next case was found to be stands on what is left of the input.
is_next : (left : Option (List ℕ)) (found is : Case) (before room : ℕ) → found ≡ is → before ≡ room → IfSome left (λ xs. found ≡ next_on before xs)
    → IfSome left (λ xs. next_on room xs ≡ is)
is_next None found is before room p q r = r
is_next (Some xs) found is before room p q r = subst (λ n. next_on n xs ≡ is) q (sym r ∙ p)

-- One turn more.
push : {R F W E : Type 0} (left : R → Option (List ℕ)) (g : Mut F (MutBor W × (Bor (List ℕ) × Unit {0})) (Result (Unit {0}) E × (MutBor W × Unit {0})))
    (room : ℕ) (p q r : Stage R F W) (n : ℕ) (bytes : List ℕ) → Turns left g room p n q → Turn left g room q bytes r → Turns left g room p (n + 1) r
push left g room p q r n bytes t one = record {
  cases = t.cases ++ (bytes ∷ []);
  count = omega (arith, length-append t.cases (bytes ∷ []));
  each = FoldsTo-push (Turn left g room) p t.cases q bytes r t.each one;
}

-- A whole case has room in the buffer that it fills the front of.
whole_fits : (n : ℕ) (buffer : List ℕ) {room : ℕ} → length buffer ≡ room → n ≤ length buffer → length (take n buffer) ≤ room
whole_fits n buffer same l = omega (arith, length-take-le n buffer l, same)

-- A line says that the case behind the turns is cut.
cut_run : {R F W E : Type 0} (left : R → Option (List ℕ)) (g : Mut F (MutBor W × (Bor (List ℕ) × Unit {0})) (Result (Unit {0}) E × (MutBor W × Unit {0})))
    (contents : W → Option (List ℕ)) (room : ℕ) (p : Stage R F W) (out : W) (n : ℕ) (q : Stage R F W) → Turns left g room p n q → n ≤ 2 ^ 64 - 1
    → IfSome (left q.input) (λ xs. next_on room xs ≡ Cut) → Appends (contents q.out) (contents out) cut_line → RunsOver left g contents room p out
cut_run left g contents room p out n q t l cut wrote = record { count = n; last = q; turns = t; counted = l; ended = inr (inl (cut, wrote)) }

pub returns-in-End-clause-runs : goal.returns-in-End-clause-runs
returns-in-End-clause-runs g c = record {
  count = _;
  last = _;
  turns = c.loop-turn.invariant.turns;
  counted = omega arith;
  ended = inl (is_next _ _ _ _ _ c.in-End.is c.loop-turn.invariant.room (c.in_ok-n.ensures.case), search rules);
}

pub returns-in-Cut-clause-runs : goal.returns-in-Cut-clause-runs
returns-in-Cut-clause-runs g c =
    on_ok_weaker c.writeln.result
    (cut_run _ _ _ _ _ _ _ _ c.loop-turn.invariant.turns (omega arith) (is_next _ _ _ _ _ c.in-Cut.is c.loop-turn.invariant.room c.in_ok-n.ensures.case)) c.writeln.ensures.bytes

pub loop-turn-preserved : goal.loop-turn-preserved
loop-turn-preserved g c =
    let taken = rw c.in-Whole.is at c.in_ok-n.ensures.bytes in
    let fits = whole_fits _ _ (search rules) (rw c.in-Whole.is at c.in_ok-n.ensures.prefix_len) in
    let called = Called-on g.F.FnMut c.run.ensures c.in_ok-run-in-Whole.was in
    record {
      callable = search of_calls;
      room = search rules;
      turns = push _ _ _ _ _ (record { input = c.next.new.input; run = c.run.new.self; out = c.run.new.arg2 }) _ _ c.loop-turn.invariant.turns
          (record { taken = taken; fits = fits; lent = _; lends = refl; called = called });
    }

pub returns-clause-runs : goal.returns-clause-runs
returns-clause-runs g c = record { count = _; last = _; turns = c.loop-turn.invariant.turns; counted = omega arith; ended = inr (inr (omega arith)) }
