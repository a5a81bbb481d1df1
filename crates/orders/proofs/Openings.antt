-- An opening into the first words of longer tables: what it answers and what is there afterwards. Assumes nothing.
use Prim.Native.Nat.{ℕ, ◌+◌, ◌*◌, ◌≤◌, ◌<◌, min}
use mathlib.Core.Bool.{Bool, true, false, cond, not}
use mathlib.Core.List.{List, [], ◌∷◌, ◌++◌}
use mathlib.Core.Logic.{◌≢◌}
use mathlib.Core.Path.{◌≡◌, refl, sym, ◌∙◌, ap}
use native.Mathlib.Omega.{arith}
use lib.Dec.{ltb}
use lib.ListN.{length, take, drop, length-append, length-drop}
use lib.Seq.{take-append-le, take_at}
use borrow.Author.Tests.{lt-ltb, le-ltb, ltb-true, ltb-false, eq-eqb}
use Rattle.std.proofs.Common.{Result, Ok, Err, OnOk}
use Rattle.std.specs.Bool.{⊤}
use Rattle.words.specs.Below.{lowest}
use Rattle.words.specs.Rows.{rows_of}
use Rattle.words.proofs.Below.{lowest_le}
use Rattle.table.specs.Limits.{base}
use Rattle.table.specs.Numbers.{WORDS, ROLES, ROOM, NOPART}
use Rattle.table.specs.Rules.{Rule, rules, number, breaks, words_broken, roles_broken}
use Rattle.table.specs.Check.{says, accepted, refused_at, tested}
use Rattle.table.specs.Check.{Verdict}
use Rattle.table.specs.Refusals.{verdict_of}
use Rattle.table.specs.declared.refusal.Refusal.{Refusal}
use Rattle.table.proofs.Sizes.{Sized, measured}
use Rattle.parts.specs.Projection.{part_of, present}
use Rattle.opening.specs.Opening.{open_of, blocks, room_of}
use Rattle.opening.proofs.Order.{few_words, open_room}

-- rules 1 and 2 settle the verdict, whatever the room, or they are kept
data Sizes (t : List ℕ) (roles : ℕ) : Type 0 where
  settled : (n : ℕ) → n ≢ 0 → ((room : ℕ) → open_of base t roles room ≡ says n 0) → Sizes t roles
  kept : Sized base t roles → Sizes t roles

by_sizes : (t : List ℕ) (roles : ℕ) (a b : Bool) → words_broken base t ≡ a → roles_broken base roles ≡ b → Sizes t roles
unfolding open_of
by_sizes t roles true b e f = settled WORDS (λ h. omega arith) (λ room. rw e)
by_sizes t roles false true e f = settled ROLES (λ h. omega arith) (λ room. rw (e, f))
by_sizes t roles false false e f = kept (record { words = e; count = f })

sizes : (t : List ℕ) (roles : ℕ) → Sizes t roles
sizes t roles = by_sizes t roles (words_broken base t) (roles_broken base roles) refl refl

-- ---- the place

small_else : (n at : ℕ) (b : Bool) (rest : Verdict) → at < 65536 → rest.place < 65536 → (cond b (says n at) rest).place < 65536
small_else n at true rest l m = l
small_else n at false rest l m = m

small_at : (n : ℕ) (p : ℕ → Bool) (m : ℕ) (rest : Verdict) → m < 65536 → rest.place < 65536 → (refused_at n p m rest).place < 65536
small_at n p m rest l h = small_else n (lowest p m) (ltb (lowest p m) m) rest (omega (arith, lowest_le p m)) h

small_tests : (t : List ℕ) (roles : ℕ) (ks : List Rule) (rest : Verdict) → rows_of t < 65536 → rest.place < 65536
    → (tested base t roles ks rest).place < 65536
unfolding tested
small_tests t roles [] rest l h = h
small_tests t roles (k ∷ ks) rest l h = small_at (number k) (breaks base t roles k) (rows_of t) _ l (small_tests t roles ks rest l h)

-- role r lacks a part
abbrev lacks : List ℕ → ℕ → Bool
lacks t r = not (present (part_of t r))

-- the lowest row or role is a small number
pub place_small : (t : List ℕ) (roles room : ℕ) → (open_of base t roles room).place < 65536
unfolding open_of
place_small t roles room = by (sizes t roles)
  where
    by : Sizes t roles → (open_of base t roles room).place < 65536
    by (settled n some e) = rw (e room) (omega arith)
    by (kept s) =
        let m = measured base t roles s in
        rw (s.words, s.count)
        (small_else ROOM 0 (ltb room (roles * length t)) _ (omega arith)
        (small_tests t roles rules (refused_at NOPART (lacks t) roles accepted) (omega (arith, m.few))
        (small_at NOPART (lacks t) roles accepted (omega (arith, m.most)) (omega arith))))

-- ---- the room

same_test : (a n : ℕ) → n ≤ 8192 → ltb (min a 8192) n ≡ ltb a n
same_test a n l = by (ltb a n) refl
  where
    by : (b : Bool) → ltb a n ≡ b → ltb (min a 8192) n ≡ ltb a n
    by true e = rw e (lt-ltb (min a 8192) n (omega (arith, ltb-true a n e)))
    by false e = rw e (le-ltb (min a 8192) n (omega (arith, ltb-false a n e)))

-- a room of 8,192 words is enough for any table that rules 1 and 2 pass
pub room_enough_lem : (t : List ℕ) (roles room : ℕ) → open_of base t roles (min room 8192) ≡ open_of base t roles room
unfolding open_of
room_enough_lem t roles room = by (sizes t roles)
  where
    by : Sizes t roles → open_of base t roles (min room 8192) ≡ open_of base t roles room
    by (settled n some e) = e (min room 8192) ∙ sym (e room)
    by (kept s) = rw (same_test room (roles * length t) (few_words t roles room s))

-- accepted, the blocks have room, and few words
module _ (t : List ℕ) (roles room : ℕ) (z : (open_of base t roles room).number ≡ 0) where
  pub few : roles * length t ≤ 8192
  few = by (sizes t roles)
    where
      by : Sizes t roles → roles * length t ≤ 8192
      by (settled n some e) = absurd (some (sym (ap (λ (v : Verdict). v.number) (e room)) ∙ z))
      by (kept s) = few_words t roles room s

  fits : roles * length t ≤ room
  fits = by (sizes t roles) (ltb room (roles * length t)) refl
    where
      by : Sizes t roles → (b : Bool) → ltb room (roles * length t) ≡ b → roles * length t ≤ room
      by (settled n some e) b f = absurd (some (sym (ap (λ (v : Verdict). v.number) (e room)) ∙ z))
      by (kept s) true f =
          let three : 3 ≡ (open_of base t roles room).number = ap (λ (v : Verdict). v.number) (open_room t roles room s (ltb-true room (roles * length t) f)) in
          absurd (omega (arith, three, z))
      by (kept s) false f = ltb-false room (roles * length t) f

-- the words of the tables after an opening into the first of them
module _ (t room₀ out : List ℕ) (roles room : ℕ) (v : Verdict) (e : v ≡ open_of base t roles (length room₀))
    (lent : length room₀ ≡ min room 8192) (f : out ≡ room_of base t roles room₀) (same : length out ≡ length room₀) where
  pub lent_verdict : v ≡ open_of base t roles room
  lent_verdict = e ∙ rw lent (room_enough_lem t roles room)

  module _ (z : v.number ≡ 0) where
    opens : (open_of base t roles (length room₀)).number ≡ 0
    opens = sym (ap (λ (w : Verdict). w.number) e) ∙ z

    filled : out ≡ blocks t roles ++ drop (roles * length t) room₀
    unfolding room_of
    filled = f ∙ rw (eq-eqb (open_of base t roles (length room₀)).number 0 opens)

    long : length (blocks t roles) ≡ roles * length t
    long =
        let all : length out ≡ length (blocks t roles) + length (drop (roles * length t) room₀) =
        rw filled (length-append (blocks t roles) (drop (roles * length t) room₀)) in
        omega (arith, all, same, length-drop (roles * length t) room₀, fits t roles (length room₀) opens)

    pub lent_blocks : (rest : List ℕ) → take (roles * length t) (out ++ rest) ≡ blocks t roles
    lent_blocks rest =
        let inside : roles * length t ≤ length out = omega (arith, same, fits t roles (length room₀) opens) in
        take-append-le (roles * length t) out rest inside ∙ rw filled (take_at (blocks t roles) (drop (roles * length t) room₀) (roles * length t) long)

-- what holds of an opening whose number is 0 holds where it is accepted
pub on_accepted : {P : Type 0} (r : Result ⊤ Refusal) → ((verdict_of r).number ≡ 0 → P) → OnOk r P
on_accepted (Ok u) f = f refl
on_accepted (Err e) f = tt
