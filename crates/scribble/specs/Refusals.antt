-- The faults of a syntax tree, 21 to 24, each with its place as the grammar is read, and the one that decides. 20 TEXT is no fault of a tree: Outcome.antt. Assumes nothing.
use Rattle.std.specs.Prelude.{ℕ, Bool, true, false, cond, not, ◌&&◌, ◌||◌, List, [], ◌∷◌, ◌++◌, ltb, eqb, length, drop}
use Rattle.table.specs.Limits.{Limits}
use Rattle.scribble.specs.Tokens.{spelled_alike}
use Rattle.scribble.specs.Grammar.{Name, Stmt, message, choice, recursion, continue, Block, ends, then, Blocks, no_more, or, SyntaxTree, protocol}
use Rattle.scribble.specs.Names.{spelled, stands_at, index_of, is_in, firsts}
use Rattle.scribble.specs.Meaning.{labels_in, roles_of}

abbrev pub TEXT : ℕ
TEXT = 20

abbrev pub NAME : ℕ
NAME = 21

abbrev pub CHOICE : ℕ
CHOICE = 22

abbrev pub LAST : ℕ
LAST = 23

abbrev pub MANY : ℕ
MANY = 24

-- A fault: its place, its number, and the place of the token that shows it. 'A statement is judged when its last word is there': where a text breaks off before
-- that token, the fault does not count (`shown_before`)
pub record Fault : Type 0 where
  pub place : ℕ
  pub number : ℕ
  pub seen : ℕ

abbrev pub blame : ℕ → ℕ → ℕ → Fault
blame at num shown = record { place = at; number = num; seen = shown }

-- the fault, where the test holds
abbrev pub fault_when : Bool → Fault → List Fault
fault_when b f = cond b (f ∷ []) []

-- 21 NAME: unknown, too long, a role listed twice, a `rec` within one of its name. Its place is the name's, and the name itself shows it

-- 'Names have at most 32 bytes'
abbrev pub longest_name : ℕ
longest_name = 32

abbrev pub too_long : Name → List Fault
too_long n = fault_when (ltb longest_name (length (spelled n))) (blame (stands_at n) NAME (stands_at n))

unfoldable pub too_long_among : List Name → List Fault
too_long_among [] = []
too_long_among (n ∷ ns) = too_long n ++ too_long_among ns

-- `before` are the roles listed before
unfoldable pub listed_twice : List (List ℕ) → List Name → List Fault
unfolding is_in index_of
listed_twice before [] = []
listed_twice before (n ∷ ns) =
    let new = listed_twice (before ++ (spelled n ∷ [])) ns in
    let old = blame (stands_at n) NAME (stands_at n) ∷ listed_twice before ns in
    cond (is_in (spelled n) before) old new

module _ (roles : List (List ℕ)) where
  unfoldable pub unknown_role : Name → List Fault
  unfolding is_in index_of
  unknown_role n = fault_when (not (is_in (spelled n) roles)) (blame (stands_at n) NAME (stands_at n))

  -- the names of a statement; `recs` are the names of the recs around. A `continue` of none of them is of an unknown name
  unfoldable mutual
    unfolding is_in index_of too_long_among unknown_role

    pub name_faults : Stmt → List (List ℕ) → List Fault
    name_faults (message l ns p q e) recs = too_long l ++ too_long_among ns ++ too_long p ++ unknown_role p ++ too_long q ++ unknown_role q
    name_faults (choice c p first others) recs = too_long p ++ unknown_role p ++ name_faults_in first recs ++ name_faults_among others recs
    name_faults (recursion c x b) recs = too_long x ++ fault_when (is_in (spelled x) recs) (blame (stands_at x) NAME (stands_at x)) ++ name_faults_in b (spelled x ∷ recs)
    name_faults (continue c x) recs = too_long x ++ fault_when (not (is_in (spelled x) recs)) (blame (stands_at x) NAME (stands_at x))

    pub name_faults_in : Block → List (List ℕ) → List Fault
    name_faults_in (ends c) recs = []
    name_faults_in (then t b) recs = name_faults t recs ++ name_faults_in b recs

    pub name_faults_among : Blocks → List (List ℕ) → List Fault
    name_faults_among no_more recs = []
    name_faults_among (or b bs) recs = name_faults_in b recs ++ name_faults_among bs recs

-- 22 CHOICE: 'Every block of a choice starts with a message from the named role, all to one receiver'

-- how a block starts
pub data Beginning : Type 0 where
  -- with its `}`, or with a statement that is no message: the place of that
  other_start : ℕ → Beginning
  -- with a message: its place, its sender and its receiver as they are written, where its `;` stands
  message_start : ℕ → List ℕ → List ℕ → ℕ → Beginning

abbrev pub beginning_of : Stmt → Beginning
beginning_of (message l ns p q e) = message_start (stands_at l) (spelled p) (spelled q) e
beginning_of (choice c p first others) = other_start c
beginning_of (recursion c x b) = other_start c
beginning_of (continue c x) = other_start c

abbrev pub beginning_in : Block → Beginning
beginning_in (ends c) = other_start c
beginning_in (then t b) = beginning_of t

abbrev pub beginnings_among : Blocks → List Beginning
beginnings_among no_more = []
beginnings_among (or b bs) = beginning_in b ∷ beginnings_among bs

-- the one receiver: that of the first block that starts with a message
unfoldable pub choice_receiver : List Beginning → List ℕ
choice_receiver [] = []
choice_receiver (other_start c ∷ os) = choice_receiver os
choice_receiver (message_start l p q e ∷ os) = q

-- the block does not start with a message from p to q. Names are compared as they are written, known or not; a message shows the fault at its `;`
unfoldable pub wrong_start : List ℕ → List ℕ → Beginning → List Fault
unfolding spelled_alike
wrong_start p q (other_start c) = blame c CHOICE c ∷ []
wrong_start p q (message_start l p' q' e) = fault_when (not (spelled_alike p' p && spelled_alike q' q)) (blame l CHOICE e)

unfoldable mutual
  unfolding choice_receiver wrong_start

  pub choice_faults : Stmt → List Fault
  choice_faults (message l ns p q e) = []
  choice_faults (choice c p first others) =
      let to = choice_receiver (beginning_in first ∷ beginnings_among others) in
      wrong_start (spelled p) to (beginning_in first) ++ choice_faults_in first ++ choice_faults_among (spelled p) to others
  choice_faults (recursion c x b) = choice_faults_in b
  choice_faults (continue c x) = []

  pub choice_faults_in : Block → List Fault
  choice_faults_in (ends c) = []
  choice_faults_in (then t b) = choice_faults t ++ choice_faults_in b

  -- the `or` blocks of a choice of p, whose receiver is q
  pub choice_faults_among : List ℕ → List ℕ → Blocks → List Fault
  choice_faults_among p q no_more = []
  choice_faults_among p q (or b bs) = wrong_start p q (beginning_in b) ++ choice_faults_in b ++ choice_faults_among p q bs

-- 23 LAST: 'A choice, `rec` or `continue` is the last statement of its block'. Its place is that of a statement that follows

abbrev pub start_of : Stmt → ℕ
start_of (message l ns p q e) = stands_at l
start_of (choice c p first others) = c
start_of (recursion c x b) = c
start_of (continue c x) = c

abbrev pub is_last : Stmt → Bool
is_last (message l ns p q e) = false
is_last (choice c p first others) = true
is_last (recursion c x b) = true
is_last (continue c x) = true

unfoldable mutual
  pub last_faults : Stmt → List Fault
  last_faults (message l ns p q e) = []
  last_faults (choice c p first others) = last_faults_in first false ++ last_faults_among others
  last_faults (recursion c x b) = last_faults_in b false
  last_faults (continue c x) = []

  -- done: the block's last statement stands before
  pub last_faults_in : Block → Bool → List Fault
  last_faults_in (ends c) done = []
  last_faults_in (then t b) done = fault_when done (blame (start_of t) LAST (start_of t)) ++ last_faults t ++ last_faults_in b (is_last t || done)

  pub last_faults_among : Blocks → List Fault
  last_faults_among no_more = []
  last_faults_among (or b bs) = last_faults_in b false ++ last_faults_among bs

-- 24 MANY: roles, labels or rows past the limit. Its place is that of the name that is one too many, or of the statement that makes the row

-- names past a limit: the first that is too many, and the later ones
unfoldable pub too_many : List Name → List Fault
too_many [] = []
too_many (n ∷ ns) = blame (stands_at n) MANY (stands_at n) ∷ too_many ns

-- The rows of a text in the order met, each with the fault that it is where it is one too many. A row belongs to its statement, an End row to its `}`;
-- a message shows it at its `;`, a choice, rec or continue at its name
unfoldable mutual
  -- chosen: the first statement of a block of a choice; the message there makes an Arm and no Exchange, which the choice makes
  pub rows_met : Stmt → Bool → List Fault
  rows_met (message l ns p q e) chosen =
      let row = blame (stands_at l) MANY e in
      cond chosen (row ∷ []) (row ∷ row ∷ [])
  rows_met (choice c p first others) chosen = blame c MANY (stands_at p) ∷ (rows_met_in first true false ++ rows_met_among others)
  rows_met (recursion c x b) chosen = blame c MANY (stands_at x) ∷ rows_met_in b false false
  rows_met (continue c x) chosen = blame c MANY (stands_at x) ∷ []

  -- done: the block's last statement stands before, so that it has no End row
  pub rows_met_in : Block → Bool → Bool → List Fault
  rows_met_in (ends c) chosen done = cond done [] (blame c MANY c ∷ [])
  rows_met_in (then t b) chosen done = rows_met t chosen ++ rows_met_in b false (is_last t || done)

  pub rows_met_among : Blocks → List Fault
  rows_met_among no_more = []
  rows_met_among (or b bs) = rows_met_in b true false ++ rows_met_among bs

-- the faults of a text, by their numbers: 21 NAME, 22 CHOICE, 23 LAST, 24 MANY
unfoldable pub faults21 : SyntaxTree → List Fault
unfolding too_long_among listed_twice name_faults_in
faults21 (protocol m n rs b) =
    too_long_among m ++ too_long n ++ too_long_among rs ++ listed_twice [] rs ++ name_faults_in (roles_of (protocol m n rs b)) b []

unfoldable pub faults22 : SyntaxTree → List Fault
unfolding choice_faults_in
faults22 (protocol m n rs b) = choice_faults_in b

unfoldable pub faults23 : SyntaxTree → List Fault
unfolding last_faults_in
faults23 (protocol m n rs b) = last_faults_in b false

-- 'roles, labels or rows past the limit': the lists of all of them without as many as the limit allows
unfoldable pub faults24 : Limits → SyntaxTree → List Fault
unfolding too_many firsts labels_in rows_met_in
faults24 lim (protocol m n rs b) =
    too_many (drop lim.roles (firsts [] rs)) ++ too_many (drop lim.labels (firsts [] (labels_in b))) ++ drop lim.rows (rows_met_in b false false)

unfoldable pub faults_of : Limits → SyntaxTree → List Fault
unfolding faults21 faults22 faults23 faults24
faults_of lim t = faults21 t ++ faults22 t ++ faults23 t ++ faults24 lim t

-- 'the earliest byte of a faulty word or statement deciding, then the lowest number'
abbrev pub sooner : Fault → Fault → Bool
sooner f g = ltb f.place g.place || (eqb f.place g.place && ltb f.number g.number)

unfoldable pub soonest : Fault → List Fault → Fault
soonest f [] = f
soonest f (g ∷ gs) = let h = cond (sooner g f) g f in soonest h gs

-- what is found: no fault, or place and number of the one that decides
pub data Finding : Type 0 where
  faultless : Finding
  faulty : ℕ → ℕ → Finding

unfoldable pub deciding : List Fault → Finding
unfolding soonest
deciding [] = faultless
deciding (f ∷ fs) = let g = soonest f fs in faulty g.place g.number

-- the faults that are shown before a place
unfoldable pub shown_before : ℕ → List Fault → List Fault
shown_before at [] = []
shown_before at (f ∷ fs) = let later = shown_before at fs in cond (ltb f.seen at) (f ∷ later) later
