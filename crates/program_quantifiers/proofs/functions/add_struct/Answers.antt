use Rattle.program_quantifiers.proofs.Adding.{from_graph}
use Rattle.program_quantifiers.proofs.functions.add_struct.Goals as goal

pub returns : goal.returns
returns c = from_graph c.add_annotations.result c.args.list.now c.struct_words.new.graph _ _ c.in_ok-words.ensures.later (rw c.deref.ensures.value at (c.add_annotations.ensures _ c.in_ok-words.ensures.stands))
