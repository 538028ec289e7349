use Rattle.std.proofs.Common.{refl, ◌∙◌}
use Rattle.std.specs.Prelude.{codes}
use Rattle.c_syntax.specs.Lexing as s
use Rattle.vcc_lexer.proofs.Skipping.{stripped, not_stripped, no_include}
use Rattle.vcc_lexer.proofs.gaps.include.Goals as goal

pub returns-in_default : goal.returns-in_default
returns-in_default c = no_include c.args.column c.args.text.now c.requires (not_stripped c.args.text.now (codes "#include <vcc.h>") c.in_default.ensures.cases)

pub returns : goal.returns
returns c = λ p e. s.include c.in-Some.place_after.now (stripped c.args.text.now (codes "#include <vcc.h>") c.in-Some.place_after c.in-Some.ensures.cases) (e ∙ c.if-column-ne1.false) c.if-not-ends_line.ensures refl
