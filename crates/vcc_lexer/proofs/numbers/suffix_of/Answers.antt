use Rattle.c_syntax.specs.Numbers as n
use Rattle.vcc_lexer.proofs.Suffixes.{suffix_by}
use Rattle.vcc_lexer.proofs.numbers.suffix_of.Goals as goal

pub returns-then-is_spelled : goal.returns-then-is_spelled
returns-then-is_spelled c = suffix_by _ _ _ _ c.if-is_spelled.ensures n.none

pub returns-then-is_spelled-2 : goal.returns-then-is_spelled-2
returns-then-is_spelled-2 c = suffix_by _ _ _ _ c.if-is_spelled-2.ensures n.u

pub returns-then-is_spelled-3 : goal.returns-then-is_spelled-3
returns-then-is_spelled-3 c = suffix_by _ _ _ _ c.if-is_spelled-3.ensures n.ll

pub returns-then-is_spelled-4 : goal.returns-then-is_spelled-4
returns-then-is_spelled-4 c = suffix_by _ _ _ _ c.if-is_spelled-4.ensures n.ull

pub returns-then-is_spelled-5 : goal.returns-then-is_spelled-5
returns-then-is_spelled-5 c = suffix_by _ _ _ _ c.if-is_spelled-5.ensures n.llu
