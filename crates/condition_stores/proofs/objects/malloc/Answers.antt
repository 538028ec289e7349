use Rattle.condition_stores.proofs.objects.malloc.Goals as goal

pub returns-in_ok-object-in-Some : goal.returns-in_ok-object-in-Some
returns-in_ok-object-in-Some c = λ b s hb hs. rw c.in-Some.ensures.some (c.in_ok-object-in-Some.ensures b s hs)

pub returns-in_ok-nothing-in-None : goal.returns-in_ok-nothing-in-None
returns-in_ok-nothing-in-None c = λ b s hb hs. rw c.in-None.ensures.none (c.in_ok-nothing-in-None.ensures c.args.a.now.program.now b c.args.ty s hs)
