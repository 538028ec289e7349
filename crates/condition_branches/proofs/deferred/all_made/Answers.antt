use Rattle.condition_branches.proofs.deferred.all_made.Goals as goal

pub returns : goal.returns
returns c = λ ts b ds es gs hb hf hd he hg. c.in_ok-add_made-2.ensures ts _ _ gs hf (c.in_ok-add_made.ensures ts b ds es hb hd he) hg
