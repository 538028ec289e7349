use Rattle.std.proofs.Common.{◌≡◌, ◌≤◌, ◌+◌, ◌-◌, ◌*◌, length}
use Rattle.c_syntax.specs.Views.{exp, exps}
use Rattle.c_syntax.specs.Grammar.{list}
use Rattle.reader_expressions.specs.Levels.{mode_of, tier_of, link, linked, number, whole}
use Rattle.reader_expressions.specs.Reading.{lexemes, part}
use Rattle.reader_expressions.specs.Lists.{listed}
use Rattle.reader_expressions.specs.Joints.{following}
use Rattle.reader_expressions.proofs.expressions.+expressions.Given as goal

abbrev pub decreases-on_level : goal.decreases-on_level
decreases-on_level l = 64 * l.room + 40 + number (tier_of l.tier)

abbrev pub decreases-links : goal.decreases-links
decreases-links l = 64 * l.room + 12

abbrev pub decreases-one_link : goal.decreases-one_link
decreases-one_link l = 64 * l.room + 11

abbrev pub decreases-conditional : goal.decreases-conditional
decreases-conditional l = 64 * l.room + 10

abbrev pub decreases-operation : goal.decreases-operation
decreases-operation l = 64 * l.room + 10

abbrev pub decreases-operand : goal.decreases-operand
decreases-operand l = 64 * l.room + 1

abbrev pub decreases-unboxed_operand : goal.decreases-unboxed_operand
decreases-unboxed_operand l = 64 * l.room

abbrev pub decreases-prefix : goal.decreases-prefix
decreases-prefix l = 64 * l.room + 30

abbrev pub decreases-unary : goal.decreases-unary
decreases-unary l = 64 * l.room + 20

abbrev pub decreases-primary : goal.decreases-primary
decreases-primary l = 64 * l.room + 25

abbrev pub decreases-unnamed : goal.decreases-unnamed
decreases-unnamed l = 64 * l.room + 20

abbrev pub decreases-group : goal.decreases-group
decreases-group l = 64 * l.room + 6

abbrev pub decreases-formed : goal.decreases-formed
decreases-formed l = 64 * l.room + 20

abbrev pub decreases-worded : goal.decreases-worded
decreases-worded l = 64 * l.room + 15

abbrev pub decreases-apply : goal.decreases-apply
decreases-apply l = 64 * l.room + 6

abbrev pub decreases-paired : goal.decreases-paired
decreases-paired l = 64 * l.room + 6

abbrev pub decreases-several : goal.decreases-several
decreases-several l = 64 * l.room + 6

abbrev pub decreases-quantified : goal.decreases-quantified
decreases-quantified l = 64 * l.room + 6

abbrev pub decreases-list : goal.decreases-list
decreases-list l = 64 * l.room + 5

abbrev pub decreases-one_more : goal.decreases-one_more
decreases-one_more l = 64 * l.room + 4

abbrev pub decreases-owned_set : goal.decreases-owned_set
decreases-owned_set l = 64 * l.room + 3

abbrev pub decreases-set_start : goal.decreases-set_start
decreases-set_start l = 64 * l.room + 2

abbrev pub decreases-set_primary : goal.decreases-set_primary
decreases-set_primary l = 64 * l.room + 24

abbrev pub decreases-set_quantifier : goal.decreases-set_quantifier
decreases-set_quantifier l = 64 * l.room + 25

abbrev pub decreases-set_body : goal.decreases-set_body
decreases-set_body l = 64 * l.room + 60

abbrev pub decreases-set_conjunction : goal.decreases-set_conjunction
decreases-set_conjunction l = 64 * l.room + 55

abbrev pub decreases-memberships : goal.decreases-memberships
decreases-memberships l = 64 * l.room + 50

abbrev pub decreases-first_membership : goal.decreases-first_membership
decreases-first_membership l = 64 * l.room + 45

abbrev pub decreases-element : goal.decreases-element
decreases-element l = 64 * l.room + 3

abbrev pub decreases-element_start : goal.decreases-element_start
decreases-element_start l = 64 * l.room + 35

abbrev pub decreases-quantified_field : goal.decreases-quantified_field
decreases-quantified_field l = 64 * l.room + 32

abbrev pub decreases-joined_behind : goal.decreases-joined_behind
decreases-joined_behind l = 64 * l.room + 13

abbrev pub decreases-one_joint : goal.decreases-one_joint
decreases-one_joint l = 64 * l.room + 12

abbrev pub invariant-links-chain : goal.invariant-links-chain
invariant-links-chain l = record {
  low : l.found.height ≤ l.room + 1;
  same : linked (l.room + 1 - l.counter) l.room (link (mode_of l.mode) (tier_of l.tier)) (exp l.found.value) l.found.height (lexemes l.found.rest.now) ≡ linked (l.room + 1) l.room (link (mode_of l.mode) (tier_of l.tier)) (exp l.fn.left.value) l.fn.left.height (lexemes l.fn.left.rest.now);
}

abbrev pub invariant-joined_behind-chain : goal.invariant-joined_behind-chain
invariant-joined_behind-chain l = record {
  low : l.found.height ≤ l.room + 1;
  same : linked (l.room + 1 - l.counter) l.room (following l.joint) (exp l.found.value) l.found.height (lexemes l.found.rest.now) ≡ linked (l.room + 1) l.room (following l.joint) (exp l.fn.left.value) l.fn.left.height (lexemes l.fn.left.rest.now);
}

abbrev pub decreases-list-more : goal.decreases-list-more
decreases-list-more l = length l.found.rest.now

abbrev pub invariant-list-more : goal.invariant-list-more
invariant-list-more l = record {
  low : l.found.height ≤ l.room;
  same : listed l.room (whole l.mode l.tier) (exps l.found.value.items) l.found.height (lexemes l.found.rest.now) ≡ part l.room (list (whole l.mode l.tier)) (lexemes l.tokens);
}
