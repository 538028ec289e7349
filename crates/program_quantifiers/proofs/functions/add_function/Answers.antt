use Rattle.program_quantifiers.proofs.Adding.{from_graph}
use Rattle.program_quantifiers.proofs.functions.add_function.Goals as goal

pub returns : goal.returns
returns c = from_graph c.add_text.result c.args.list.now c.function_words.new.graph _ _ c.in_ok-words.ensures.later (c.add_text.ensures (c.scene-scene.ensures _ _ c.in_ok-words.ensures.stands))
