-- Worked rows: names. Each is a text with the number of its first broken rule, which stands at the first word of the second part, or one that breaks none.
use Rattle.std.specs.Prelude.{Bool, true, List, [], ◌∷◌}
use Rattle.std.specs.List.{list_all}
use Rattle.std.proofs.Common.{◌≡◌, refl}
use Rattle.ebnf.specs.Sets.{first, first_rule, low, low_rule, is_empty}
use Rattle.ebnf.specs.Reading.{read, links, climbs, read_rule, reads}
use Rattle.typing_spec.specs.Reading.{breaks, types}

-- rule 1: names that aren't declared
abbrev declared : List Bool
declared =
    breaks 1 "void main ( ) {" "y = 1 ; }" ∷
    types "void main ( ) { int y ; y = 1 ; }" ∷
    breaks 1 "void main ( ) { { int x = 1 ; }" "x = 2 ; }" ∷
    types "void main ( ) { { int x = 1 ; x = 2 ; } }" ∷
    breaks 1 "void main ( ) { int x =" "x ; }" ∷
    types "void main ( ) { if ( 1 ) int y = 1 ; }" ∷
    breaks 1 "void main ( ) { if ( 1 ) int y = 1 ;" "y = 2 ; }" ∷
    breaks 1 "void main ( ) { while ( 1 ) int y = 1 ;" "y = 2 ; }" ∷
    breaks 1 "void main ( ) { do int y = 1 ; while (" "y ) ; }" ∷
    breaks 1 "void main ( ) {" "f ( ) ; }" ∷
    types "void main ( ) { f ( ) ; } void f ( ) { }" ∷
    breaks 1 "void main ( ) { vcc_spawn (" "f ) ; }" ∷
    types "void main ( ) { vcc_spawn ( f ) ; } void f ( ) { }" ∷
    breaks 1 "void main ( struct" "A * p ) { }" ∷
    types "void main ( struct A * p ) { } struct A { int v ; } ;" ∷
    breaks 1 "struct A { int v ; struct A * n ; } ; void main ( struct A * p ) { p ->" "w = 1 ; }" ∷
    types "struct A { int v ; struct A * n ; } ; void main ( struct A * p ) { p -> v = 1 ; }" ∷
    breaks 1 "struct A { int v ; struct A * n ; } ; void main ( struct A * p ) { p = malloc ( sizeof ( struct" "B ) ) ; }" ∷
    breaks 1 "struct A { int v ; struct A * n ; } ; void main ( struct A * p ) { p = ( struct" "B * ) malloc ( sizeof ( struct A ) ) ; }" ∷
    types "struct A { int v ; struct A * n ; } ; void main ( struct A * p ) { p = ( struct A * ) malloc ( sizeof ( struct A ) ) ; }" ∷
    breaks 1 "void main ( ) { _( ghost { int x ; } ) _( ghost" "x = 1 ; ) }" ∷
    types "void main ( ) { _( ghost int x ; ) _( ghost x = 1 ; ) }" ∷
    breaks 1 "void main ( ) { _( ghost if ( 1 ) int x ; ) _( ghost" "x = 1 ; ) }" ∷
    breaks 1 "struct A { int v ; _( invariant" "w == 1 ) } ; void main ( ) { }" ∷
    types "struct A { _( invariant v == 1 ) int v ; } ; void main ( ) { }" ∷
    breaks 1 "struct A { int v ; struct A * n ; } ; void main ( struct A * p ) { _( assert ( \\exists struct A * q ; q \\in p -> \\owns && 1 ) &&" "q == p ) }" ∷
    types "struct A { int v ; struct A * n ; } ; void main ( struct A * p ) { _( assert \\exists struct A * q ; q \\in p -> \\owns && q == p ) }" ∷
    breaks 1 "struct A { int v ; struct A * n ; } ; void main ( struct A * p ) { _( assert \\exists struct" "B * q ; q \\in p -> \\owns && q -> w == 1 ) }" ∷
    breaks 1 "void main ( ) { } void f ( struct A * p ) { p -> n -> w = 1 ; } struct A { struct" "B * n ; } ;" ∷
    []

declared_hold : list_all (λ b. b) declared ≡ true
unfolding reads read links climbs read_rule first first_rule low low_rule is_empty
declared_hold = refl

-- rule 1: which declaration a name stands for
abbrev hidden : List Bool
hidden =
    breaks 1 "void main ( struct A * p ) { p ->" "w = 1 ; } struct A { int v ; } ; struct A { int w ; } ;" ∷
    breaks 2 "void main ( struct A * p ) { p -> v = 1 ; } struct A { int v ; } ; struct" "A { int w ; } ;" ∷
    types "struct A { int v ; struct A * n ; } ; void main ( struct A * p , int o ) { _( assert \\forall struct A * o ; o \\in p -> \\owns ==> o -> v == 1 ) }" ∷
    breaks 6 "struct A { int v ; struct A * n ; } ; void main ( struct A * p , int o ) { _( assert \\forall struct A * q ; q \\in p -> \\owns ==> o" "-> v == 1 ) }" ∷
    types "struct A { int v ; struct A * n ; } ; void main ( struct A * p ) { _( assert \\exists struct A * q ; q \\in p -> \\owns && \\exists struct A * r ; r \\in q -> \\owns && r == p ) }" ∷
    types "struct A { int v ; _( invariant \\forall struct A * v ; v \\in \\this -> \\owns ==> v -> v == 1 ) } ; void main ( ) { }" ∷
    breaks 6 "struct A { int v ; struct A * n ; } ; void main ( struct A * p ) { _( assert \\forall struct A * q ; q \\in p -> \\owns ==> \\forall \\object q ; q \\in p -> \\owns ==> q" "-> v == 1 ) }" ∷
    breaks 1 "void main ( ) { _( ghost \\claim c = \\make_claim ( { } ," "c == NULL ) ; ) }" ∷
    breaks 1 "void main ( ) _( requires" "x == 1 ) { int x ; }" ∷
    types "void main ( _( ghost int x ) ) _( requires x == 1 ) { }" ∷
    breaks 1 "void f ( int x ) { } void main ( ) {" "x = 1 ; }" ∷
    []

hidden_hold : list_all (λ b. b) hidden ≡ true
unfolding reads read links climbs read_rule first first_rule low low_rule is_empty
hidden_hold = refl

-- rule 1: every place where a name may stand
abbrev walked : List Bool
walked =
    breaks 1 "void main ( ) { if ( 1 ) int y = 1 ; else" "y = 2 ; }" ∷
    breaks 1 "void main ( ) { for (" "y = 1 ; 1 ; ) ; }" ∷
    breaks 1 "void main ( ) { for ( ;" "y ; ) ; }" ∷
    breaks 1 "void main ( ) { for ( ; 1 ;" "y ++ ) int y ; }" ∷
    breaks 1 "void main ( ) { for ( ; 1 ; ) _( invariant" "y == 1 ) int y ; ; }" ∷
    breaks 1 "void main ( ) { while (" "y ) ; }" ∷
    breaks 1 "void main ( ) { while ( 1 ) _( invariant" "y == 1 ) { int y ; } }" ∷
    breaks 1 "void main ( ) { do _( invariant" "y == 1 ) ; while ( 1 ) ; }" ∷
    breaks 1 "int f ( ) { return" "y ; } void main ( ) { }" ∷
    breaks 1 "void main ( ) { free (" "y ) ; }" ∷
    breaks 1 "void main ( ) { _( assert" "y ) }" ∷
    breaks 1 "void main ( ) { _( wrap" "y ) }" ∷
    breaks 1 "void main ( ) { _( unwrapping" "y ) { } }" ∷
    breaks 1 "void main ( ) { _( atomic NULL ," "y ) { } }" ∷
    breaks 1 "struct A { int v ; struct A * n ; } ; void main ( struct A * p ) { _( unwrapping p ) { int y ; }" "y = 1 ; }" ∷
    breaks 1 "void main ( ) { _( atomic NULL ) {" "y = 1 ; } }" ∷
    breaks 1 "void f ( int x _( ghost int z ) ) { } void main ( ) { f (" "y _( ghost 1 ) ) ; }" ∷
    breaks 1 "void f ( int x _( ghost int z ) ) { } void main ( ) { f ( 1 _( ghost" "y ) ) ; }" ∷
    breaks 1 "void f ( int x ) { } void main ( ) { vcc_spawn ( f ," "y ) ; }" ∷
    breaks 1 "void main ( ) _( writes" "y ) { }" ∷
    breaks 1 "void main ( ) _( writes \\extent (" "y ) ) { }" ∷
    breaks 1 "void main ( ) _( ensures" "y ) { }" ∷
    breaks 1 "void main ( ) _( maintains" "y ) { }" ∷
    breaks 1 "void main ( ) { _( ghost \\destroy_claim (" "y , { } ) ) }" ∷
    breaks 1 "void main ( ) { _( ghost \\destroy_claim ( NULL , {" "y } ) ) }" ∷
    breaks 1 "void main ( ) { _( ghost \\claim c = \\make_claim ( {" "y } , 1 ) ) }" ∷
    breaks 1 "void main ( ) { _( ghost if (" "y ) { } ) }" ∷
    breaks 1 "void main ( ) { _( ghost if ( 1 ) { } else" "y = 1 ; ) }" ∷
    breaks 1 "struct" "B * f ( ) { return NULL ; } void main ( ) { }" ∷
    breaks 1 "void main ( _( ghost struct" "B * b ) ) { }" ∷
    breaks 1 "void main ( ) { struct" "B * b ; }" ∷
    breaks 1 "void main ( ) { _( ghost struct" "B * b ; ) }" ∷
    breaks 1 "struct A { _( ghost struct" "B * b ; ) } ; void main ( ) { }" ∷
    []

walked_hold : list_all (λ b. b) walked ≡ true
unfolding reads read links climbs read_rule first first_rule low low_rule is_empty
walked_hold = refl

-- rule 2: names that are declared twice
abbrev declared_once : List Bool
declared_once =
    breaks 2 "struct A { int v ; } ; struct" "A { int w ; } ; void main ( ) { }" ∷
    types "struct A { int v ; } ; struct B { int v ; } ; void main ( ) { }" ∷
    breaks 2 "void main ( ) { } void" "main ( ) { }" ∷
    breaks 2 "struct A { int v ; int" "v ; } ; void main ( ) { }" ∷
    breaks 2 "struct A { int v ; _( ghost \\object" "v ; ) } ; void main ( ) { }" ∷
    breaks 2 "void main ( int x ) { int" "x ; }" ∷
    breaks 2 "void main ( int x _( ghost int" "x ) ) { }" ∷
    breaks 2 "void main ( ) { { int x ; } { int" "x ; } }" ∷
    breaks 2 "void main ( ) { int x ; _( ghost { int" "x ; } ) }" ∷
    types "void main ( ) { int x ; } void f ( ) { int x ; }" ∷
    types "struct main { int main ; } ; void main ( ) { int main ; }" ∷
    types "struct A { int v ; struct A * n ; } ; void main ( struct A * p , struct A * q ) { _( assert \\forall struct A * p ; p \\in q -> \\owns ==> 1 ) }" ∷
    []

declared_once_hold : list_all (λ b. b) declared_once ≡ true
unfolding reads read links climbs read_rule first first_rule low low_rule is_empty
declared_once_hold = refl
