-- Worked rows: texts that break no typing rule, and whose atomic blocks hold at most one assignment of code, or one that holds two.
use Rattle.std.specs.Prelude.{Bool, true, not, ◌&&◌, List, [], ◌∷◌}
use Rattle.std.specs.List.{list_all}
use Rattle.std.proofs.Common.{◌≡◌, refl}
use Prim.Native.String.{String}
use Rattle.ebnf.specs.Sets.{first, first_rule, low, low_rule, is_empty}
use Rattle.ebnf.specs.Reading.{read, links, climbs, read_rule, reads}
use Rattle.c_syntax.specs.Items.{Item}
use Rattle.c_syntax.specs.Faults.{read_source}
use Rattle.object_types.specs.Sets.{every}
use Rattle.typing_spec.specs.Reading.{types, judged, placed, words_of}
use Rattle.apart_law.specs.Premises.{item_stores_once}

abbrev typed_and : (List Item → Bool) → String → Bool
typed_and test text = types text && judged test (read_source (placed 1 (words_of text)))

abbrev once : String → Bool
once = typed_and (every item_stores_once)

abbrev twice : String → Bool
twice = typed_and (λ items. not (every item_stores_once items))

abbrev blocks : List Bool
blocks =
    once "void main ( int x ) { x = 1 ; x = 2 ; _( atomic NULL ) { } }" ∷
    once "void main ( int x ) { _( atomic NULL ) { x = 1 ; } _( atomic NULL ) { x = 2 ; } }" ∷
    once "struct B { volatile int v ; _( ghost int g ; ) } ; void main ( struct B * p ) { _( atomic p ) { { p -> v = 1 ; } _( ghost { p -> g = 2 ; p -> g = 3 ; } ) } }" ∷
    -- the lock
    once "struct Data { int v ; _( invariant v >= 0 ) } ; _( claimable , volatile_owns ) struct Lock { volatile int locked ; _( ghost \\object protected_obj ; ) _( invariant locked == 0 ==> \\mine ( protected_obj ) ) } ; void InitializeLock ( struct Lock * l _( ghost \\object obj ) ) _( writes \\span ( l ) , obj ) _( requires \\wrapped ( obj ) ) _( ensures \\wrapped ( l ) && l -> protected_obj == obj ) { l -> locked = 0 ; _( ghost l -> protected_obj = obj ; ) _( ghost l -> \\owns = { obj } ; ) _( wrap l ) } void Acquire ( struct Lock * l _( ghost \\claim c ) ) _( maintains \\wrapped ( c ) && \\claims_object ( c , l ) ) _( ensures \\wrapped ( l -> protected_obj ) && \\fresh ( l -> protected_obj ) ) { int stop = 0 ; do { _( atomic c , l ) { stop = InterlockedCompareExchange ( & l -> locked , 1 , 0 ) == 0 ; _( ghost if ( stop ) l -> \\owns -= l -> protected_obj ; ) } } while ( ! stop ) ; } void Release ( struct Lock * l _( ghost \\claim c ) ) _( requires l -> protected_obj != c ) _( maintains \\wrapped ( c ) && \\claims_object ( c , l ) ) _( requires \\wrapped ( l -> protected_obj ) ) _( writes l -> protected_obj ) { _( atomic c , l ) { l -> locked = 0 ; _( ghost l -> \\owns += l -> protected_obj ; ) } } void Worker ( struct Lock * l , struct Data * d _( ghost \\claim c ) ) _( requires \\wrapped ( c ) && \\claims_object ( c , l ) && l -> protected_obj == d ) _( writes c ) { Acquire ( l _( ghost c ) ) ; _( unwrap d ) d -> v = 1 ; _( wrap d ) Release ( l _( ghost c ) ) ; } void main ( ) { struct Lock * l = malloc ( sizeof ( struct Lock ) ) ; struct Data * d = malloc ( sizeof ( struct Data ) ) ; if ( l != NULL && d != NULL ) { d -> v = 0 ; _( wrap d ) InitializeLock ( l _( ghost d ) ) ; _( ghost \\claim a = \\make_claim ( { l } , \\true ) ; ) _( ghost \\claim b = \\make_claim ( { l } , \\true ) ; ) vcc_spawn ( Worker , l , d _( ghost a ) ) ; vcc_spawn ( Worker , l , d _( ghost b ) ) ; } }" ∷
    twice "void main ( int x , int y ) { _( atomic NULL ) { x = 1 ; y = 2 ; } }" ∷
    twice "void main ( int x ) { _( atomic NULL ) { { x = 1 ; } { x ++ ; } } }" ∷
    twice "struct B { volatile int v ; int w ; } ; void main ( struct B * p , int x ) { _( atomic p ) { x = p -> v ; p -> w = x ; } }" ∷
    twice "void main ( int x ) { if ( x ) ; else _( atomic NULL ) { x = 1 ; x = 2 ; } }" ∷
    twice "void main ( int x ) { while ( x ) { _( atomic NULL ) { x = 1 ; x = 2 ; } } }" ∷
    twice "struct B { int v ; } ; void main ( struct B * p , int x ) { _( unwrapping p ) { _( atomic NULL ) { x = 1 ; x = 2 ; } } }" ∷
    []

blocks_hold : list_all (λ b. b) blocks ≡ true
unfolding reads read links climbs read_rule first first_rule low low_rule is_empty
blocks_hold = refl
