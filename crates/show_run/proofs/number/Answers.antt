use Rattle.std.proofs.Common.{ℕ, zero, suc, ◌+◌, ◌-◌, ◌<◌, ◌≤◌, Bool, true, false, ◌&&◌, List, length, get_or, arith, leb, eqb, sym, subst}
use Rattle.std.specs.Prelude.{Result, Ok, Err, IfOk}
use Rattle.std.proofs.lemmas.Bool.{leb-false, cond_both}
use Rattle.groups.specs.declared.Number.{Number}
use Rattle.groups.specs.declared.NumberError.{NumberError}
use Rattle.groups.specs.Number.{groups, in_front}
use Rattle.show_run.proofs.number.Goals as goal

-- The place behind a number that stands at p: behind p, and within the bytes.
abbrev Within : List ℕ → ℕ → Result Number NumberError → Type 0
Within s p r = IfOk r (λ n. (p < n.next) × (n.next ≤ length s))

front_within : (s : List ℕ) (p low : ℕ) (r : Result Number NumberError) → Within s (p + 1) r → Within s p (in_front low r)
front_within s p low (Ok n) h = (omega arith, h.1)
front_within s p low (Err e) h = h

groups_within : (left : ℕ) (longer : Bool) (s : List ℕ) (p : ℕ) → Within s p (groups left longer s p)
unfolding groups
groups_within zero longer s p = tt
groups_within (suc left) longer s p =
    let b = get_or s p 0 in
    cond_both (leb (length s) p) _ _ (Within s p) (λ e. tt)
    (λ in_s. cond_both (leb 128 b) _ _ (Within s p) (λ e. front_within s p (b - 128) _ (groups_within left true s (p + 1)))
    (λ e. cond_both (longer && eqb b 0) _ _ (Within s p) (λ e. tt) (λ e. let l = leb-false (length s) p in_s in (omega arith, omega arith))))

pub returns-in-Ok-clause-within : goal.returns-in-Ok-clause-within
returns-in-Ok-clause-within c = subst (Within c.args.bytes.now c.args.at) (sym c.in-Ok.ensures) (groups_within 8 false _ _)
