use Rattle.typing_symbols.specs.Lookup.{at}
use Rattle.typing_symbols.proofs.Nesting.{is_covered, uncovered, hiding_less}
use Rattle.typing_symbols.proofs.variables.Variables.forget.Goals as goal

pub uncover-requires : goal.uncover-requires
uncover-requires c = is_covered c.pop.new.self.items c.args.self.now.all.items c.in-Some.last c.in-Some.ensures.items (at c.args.self.now.places) c.args.self.now.found

pub invariant_of-self-2 : goal.invariant_of-self-2
invariant_of-self-2 c =
    let s = c.args.self.now in
    record {
      found = uncovered c.pop.new.self.items s.all.items c.in-Some.last c.in-Some.ensures.items (at s.places) (at c.uncover.new.places) s.hidden s.found c.uncover.ensures;
      hidden = hiding_less c.pop.new.self.items s.all.items c.in-Some.last c.in-Some.ensures.items s.hidden;
    }
