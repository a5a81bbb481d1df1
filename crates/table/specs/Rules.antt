-- Document 01, 'What comes back': rules 1 and 2, and rules 4 to 10 as tests of one row. Assumes nothing.
use Rattle.std.specs.Prelude.{ℕ, ◌*◌, ◌%◌, Bool, true, false, ◌&&◌, ◌||◌, not, List, [], ◌∷◌, ltb, leb, eqb, length}
use Rattle.words.specs.Rows.{rows_of}
use Rattle.table.specs.Limits.{Limits}
use Rattle.table.specs.Numbers.{KIND, FIELD, LINK, NAMED, TWICE, UNBOUND, UNGUARDED}
use Rattle.table.specs.Rows.{Row, End, Exchange, Arm, Loop, Back, Other, row, is_arm}
use Rattle.table.specs.Above.{times_named, above, earlier_arms, has_label, loops, only_loops}

-- 1 WORDS: table length 0, not a multiple of 4, or over the limit
abbrev pub words_broken : Limits → List ℕ → Bool
words_broken lim t = eqb (length t) 0 || not (eqb (length t % 4) 0) || ltb (lim.rows * 4) (length t)

-- 2 ROLES: role count outside 2 to the limit
abbrev pub roles_broken : Limits → ℕ → Bool
roles_broken lim roles = ltb roles 2 || ltb lim.roles roles

-- 4 KIND: a kind above 4
abbrev pub kind_broken : Row → Bool
kind_broken (End a b c) = false
kind_broken (Exchange s r f) = false
kind_broken (Arm l c n) = false
kind_broken (Loop b x y) = false
kind_broken (Back d x y) = false
kind_broken Other = true

-- 5 FIELD: an unused word not 0, a role not in range, sender equal to receiver, label over the limit
abbrev pub field_broken : Limits → ℕ → Row → Bool
field_broken lim roles (End a b c) = not (eqb a 0 && eqb b 0 && eqb c 0)
field_broken lim roles (Exchange s r f) = not (ltb s roles && ltb r roles && not (eqb s r))
field_broken lim roles (Arm l c n) = not (ltb l lim.labels)
field_broken lim roles (Loop b x y) = not (eqb x 0 && eqb y 0)
field_broken lim roles (Back d x y) = not (eqb x 0 && eqb y 0)
field_broken lim roles Other = false

-- a link from row i to row j: of a higher number, inside the table, and j an Arm, or j no Arm
abbrev pub to_arm : List ℕ → ℕ → ℕ → Bool
to_arm t i j = ltb i j && ltb j (rows_of t) && is_arm (row t j)

abbrev pub to_other : List ℕ → ℕ → ℕ → Bool
to_other t i j = ltb i j && ltb j (rows_of t) && not (is_arm (row t j))

-- 6 LINK: a link broken, or row 0 an Arm. Of the links only a next arm may be 0, for none
abbrev pub link_broken : List ℕ → ℕ → Row → Bool
link_broken t i (End a b c) = false
link_broken t i (Exchange s r f) = not (to_arm t i f)
link_broken t i (Arm l c n) = eqb i 0 || not (to_other t i c && (eqb n 0 || to_arm t i n))
link_broken t i (Loop b x y) = not (to_other t i b)
link_broken t i (Back d x y) = false
link_broken t i Other = false

-- 7 NAMED: a row but 0 not named exactly once
abbrev pub named_broken : List ℕ → ℕ → Bool
named_broken t i = not (eqb i 0) && not (eqb (times_named t i) 1)

-- a test of an Arm's label, or of a Back's depth; no other row passes
abbrev pub of_arm : (ℕ → Bool) → Row → Bool
of_arm p (End a b c) = false
of_arm p (Exchange s r f) = false
of_arm p (Arm l c n) = p l
of_arm p (Loop b x y) = false
of_arm p (Back d x y) = false
of_arm p Other = false

abbrev pub of_back : (ℕ → Bool) → Row → Bool
of_back p (End a b c) = false
of_back p (Exchange s r f) = false
of_back p (Arm l c n) = false
of_back p (Loop b x y) = false
of_back p (Back d x y) = p d
of_back p Other = false

-- 8 TWICE: an arm repeats an earlier label of its chain
abbrev pub twice_broken : List ℕ → ℕ → Row → Bool
twice_broken t i = of_arm (λ l. has_label t l (earlier_arms t i))

-- 9 UNBOUND: a Back with too few Loops around it
abbrev pub unbound_broken : List ℕ → ℕ → Row → Bool
unbound_broken t i = of_back (λ d. leb (loops t (above t i)) d)

-- 10 UNGUARDED: a Back is unguarded when only Loop rows stand between it and its Loop
abbrev pub unguarded_broken : List ℕ → ℕ → Row → Bool
unguarded_broken t i = of_back (λ d. only_loops t d (above t i))

-- the rules that a row keeps or breaks, in the order in which they are tested
pub data Rule : Type 0 where
  kind field link named twice unbound unguarded : Rule

abbrev pub rules : List Rule
rules = kind ∷ field ∷ link ∷ named ∷ twice ∷ unbound ∷ unguarded ∷ []

abbrev pub number : Rule → ℕ
number kind = KIND
number field = FIELD
number link = LINK
number named = NAMED
number twice = TWICE
number unbound = UNBOUND
number unguarded = UNGUARDED

-- row i of the table t, of so many roles, breaks the rule
unfoldable pub breaks : Limits → List ℕ → ℕ → Rule → ℕ → Bool
breaks lim t roles kind i = kind_broken (row t i)
breaks lim t roles field i = field_broken lim roles (row t i)
breaks lim t roles link i = link_broken t i (row t i)
breaks lim t roles named i = named_broken t i
breaks lim t roles twice i = twice_broken t i (row t i)
breaks lim t roles unbound i = unbound_broken t i (row t i)
breaks lim t roles unguarded i = unguarded_broken t i (row t i)
