use Rattle.condition_claims.proofs.claims.site_entries.Goals as goal

pub returns-clause-stands : goal.returns-clause-stands
returns-clause-stands c = λ b s hb hs. rw c.deref.ensures.value at (c.entries_in.ensures.stands _ (c.in_ok-words.ensures.stands b s hb hs))
