use Rattle.std.proofs.Common.{sym, ◌∙◌}
use Rattle.condition_claims.proofs.Noted.{effect_inside, effect_outside, same_entries}
use Rattle.condition_claims.proofs.claims.claim_effect.Goals as goal

pub returns-then-a : goal.returns-then-a
returns-then-a c = λ b d os q h es s hb hd hes hs.
    effect_inside c.args.a.now.program.now b d os es q h s (sym hb.inside_is ∙ c.if-a.true) (c.in_ok-value.ensures _ d os q h es s hd hes hs)

pub returns : goal.returns
returns c = λ b d os q h es s hb hd hes hs.
    effect_outside c.args.a.now.program.now b d os es q h s (sym hb.inside_is ∙ c.if-a.false) (c.in_ok-value-2.ensures d os q h es s hd (same_entries c.deref.ensures.value hes) hs)
