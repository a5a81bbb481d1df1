-- What the merge's mirror does with the words of two parts in rising order: it writes the words of their merge, and answers not ok
-- exactly where they have none. Assumes nothing.
use Prim.Native.Nat.{ℕ, zero, suc, ◌+◌, ◌≤◌, ◌<◌}
use mathlib.Core.Bool.{Bool, true, false, cond}
use mathlib.Core.List.{List, [], ◌∷◌, ◌++◌}
use mathlib.Core.Option.{Option, none, some, bind}
use Rattle.std.specs.Prelude.{Option as StdOption, Some, None}
use mathlib.Core.Path.{◌≡◌, refl, sym, ◌∙◌}
use native.Mathlib.Decide.{ℕ_discrete}
use native.Mathlib.Omega.{arith}
use lib.Dec.{ltb}
use lib.ListN.{length, get_or, set, length-append}
use lib.Seq.{sets}
use borrow.Author.Tests.{ltb-true, ltb-false, eq-eqb, ne_eqb, lt-ltb, le-ltb}
use Rattle.parts.specs.Part.{Part, p_end, p_send, p_receive, p_loop, p_back, PartArms, p_nil, p_arm}
use Rattle.parts.specs.Merge.{only_if, same_labels, merge, merge_arms}
use Rattle.parts.specs.mirror.Codes.{code, codes, codes_arms}
use Rattle.parts.specs.declared.Code.{Code}
use Rattle.parts.specs.declared.Code.TheVariants.{End, Mark, Arm, Loop, Back, Send, Receive}
use Rattle.parts.specs.mirror.Kinds.{code_of}
use Rattle.merge.specs.declared.Rule.{Rule}
use Rattle.merge.specs.declared.Rule.TheVariants.{Leaf, Inside, First, Second, Both}
use Rattle.parts.proofs.Read.{code_is}
use native.Mathlib.Numerals.{sub-one}
use Rattle.merge.specs.mirror.Merging.{MOST, Merge, rule, equal_rule, arm_rule, stepped, own_word, step_of, step_out, copy_of, after, merge_body, merge_of}
use Rattle.parts.proofs.Rising.{Above, label, no_label, above_above, Rising, r_send, r_receive, r_loop, RisingArms, r_arm, first_alone, second_alone, shared}
use Rattle.parts.proofs.Sizes.{merge_words}
use Rattle.parts.proofs.Words.{Stands, stands_arm, sets_append, words_some, words_some_arms, words_arm}
use Rattle.merge.proofs.Copies.{is_inside, copy_part}

-- the words ws are written from `at` on, and the places behind the two sides are a and b
abbrev pub wrote : ℕ → ℕ → List ℕ → ℕ → List ℕ → Merge
wrote a b o at ws = record { res = record { ok = true; a = a; b = b; at = at + length ws }; out = sets o at ws }

-- m has written the words of what there is, or is not ok where there is nothing
abbrev pub Gives : {A : Type 0} → (A → List ℕ) → ℕ → ℕ → List ℕ → ℕ → Option A → Merge → Type 0
Gives words a b o at none m = m.res.ok ≡ false
Gives words a b o at (some x) m = m ≡ wrote a b o at (words x)

-- behind the words u
gives_on : {A B : Type 0} (words : A → List ℕ) (words' : B → List ℕ) (f : A → B) (u : List ℕ) → ((x : A) → words' (f x) ≡ u ++ words x)
    → (a b : ℕ) (o : List ℕ) (at t : ℕ) → t ≡ at + length u → (X : Option A) (m : Merge) → Gives words a b (sets o at u) t X m
    → Gives words' a b o at (bind X (λ x. some (f x))) m
unfolding bind
gives_on words words' f u e a b o at t et none m h = h
gives_on words words' f u e a b o at t et (some x) m h =
    let n : t + length (words x) ≡ at + length (u ++ words x) = omega (arith, length-append u (words x)) in
    h ∙ rw (e x, n, sets_append o at t u (words x) et)

-- ---- the rules

rule_none : (x y : ℕ) (c d : Code) → (x ≡ y → ⊥) → code_of x ≡ c → code_of y ≡ d → arm_rule c d ≡ None → rule false x y ≡ None
unfolding rule
rule_none x y c d n ec ed e = rw (ne_eqb x y n, ec, ed, e)

rule_same : (exact : Bool) (x y : ℕ) (c : Code) → x ≡ y → code_of x ≡ c → rule exact x y ≡ Some (equal_rule c)
unfolding rule
rule_same exact x y c e h = rw (eq-eqb x y e, h)

-- arms of two sends that differ
rule_exact : (x y : ℕ) → (x ≡ y → ⊥) → rule true x y ≡ None
unfolding rule
rule_exact x y n = rw (ne_eqb x y n)

rule_first_last : (l : ℕ) → rule false (code 2 l) 1 ≡ Some First
unfolding rule
rule_first_last l = rw (ne_eqb (code 2 l) 1 (λ e. omega arith), code_is 2 l (omega arith))

rule_second_last : (l : ℕ) → rule false 1 (code 2 l) ≡ Some Second
unfolding rule
rule_second_last l = rw (ne_eqb 1 (code 2 l) (λ e. omega arith), code_is 2 l (omega arith))

rule_first : (l k : ℕ) → l < k → rule false (code 2 l) (code 2 k) ≡ Some First
unfolding rule
rule_first l k h =
    rw (ne_eqb (code 2 l) (code 2 k) (λ e. omega arith), code_is 2 l (omega arith), code_is 2 k (omega arith), lt-ltb l k h)

rule_second : (l k : ℕ) → k < l → rule false (code 2 l) (code 2 k) ≡ Some Second
unfolding rule
rule_second l k h =
    rw (ne_eqb (code 2 l) (code 2 k) (λ e. omega arith), code_is 2 l (omega arith), code_is 2 k (omega arith), le-ltb l k (omega arith))

-- ---- one call

-- a call at the words x and y, whose rule is k
enter : (exact : Bool) (n : ℕ) (s : List ℕ) (a b : ℕ) (o : List ℕ) (at x y : ℕ) (k : StdOption Rule) → get_or s a 0 ≡ x → get_or s b 0 ≡ y → rule exact x y ≡ k
    → a < length s → b < length s → at < MOST
    → merge_of (suc n) exact s a b o at
    ≡ merge_body (copy_of s) (λ e. merge_of n e s) (stepped (record { a = suc a; b = suc b; at = suc at; left = n }) k) exact a b (set o at (own_word k x y)) at
unfolding merge_of step_of step_out
enter exact n s a b o at x y k ex ey ek q r t =
    let i : a + 1 ≡ suc a = omega arith in
    let j : b + 1 ≡ suc b = omega arith in
    let m : at + 1 ≡ suc at = omega arith in
    rw (is_inside (suc n) (length s) a b at (omega arith) q r t, ex, ey, ek, i, j, m, sub-one)

-- what is to be shown of a call with n rows left
abbrev Merges : ℕ → Part → Part → Type 0
Merges n P Q =
    (s : List ℕ) (a b : ℕ) (o : List ℕ) (at a' b' : ℕ) → Rising P → Rising Q → Stands s a (codes P) → Stands s b (codes Q)
    → length (codes P) + length (codes Q) ≤ n → a + length (codes P) ≤ length s → b + length (codes Q) ≤ length s
    → at + length (codes P) + length (codes Q) ≤ MOST → a' ≡ a + length (codes P) → b' ≡ b + length (codes Q)
    → Gives codes a' b' o at (merge P Q) (merge_of n false s a b o at)

-- arms of two receives, or exactly those of two sends
abbrev arms_by : Bool → PartArms → PartArms → Option PartArms
arms_by true ps qs = cond (same_labels ps qs) (merge_arms ps qs) none
arms_by false ps qs = merge_arms ps qs

abbrev MergesArms : Bool → ℕ → PartArms → PartArms → Type 0
MergesArms exact n ps qs =
    (s : List ℕ) (a b : ℕ) (o : List ℕ) (at a' b' : ℕ) → RisingArms ps → RisingArms qs → Stands s a (codes_arms ps) → Stands s b (codes_arms qs)
    → length (codes_arms ps) + length (codes_arms qs) ≤ n → a + length (codes_arms ps) ≤ length s → b + length (codes_arms qs) ≤ length s
    → at + length (codes_arms ps) + length (codes_arms qs) ≤ MOST → a' ≡ a + length (codes_arms ps) → b' ≡ b + length (codes_arms qs)
    → Gives codes_arms a' b' o at (arms_by exact ps qs) (merge_of n exact s a b o at)

-- ---- parts

-- a part's first word
abbrev pub head : Part → ℕ
head p_end = 0
head (p_send q ps) = code 5 q
head (p_receive q ps) = code 6 q
head (p_loop P) = 3
head (p_back k) = code 4 k

pub head_stands : (P : Part) (s : List ℕ) (a : ℕ) → Stands s a (codes P) → get_or s a 0 ≡ head P
unfolding codes
head_stands p_end s a h = h.0
head_stands (p_send q ps) s a h = h.0
head_stands (p_receive q ps) s a h = h.0
head_stands (p_loop P) s a h = h.0
head_stands (p_back k) s a h = h.0

-- what it stands for: neither an arm nor a mark
abbrev head_code : Part → Code
head_code p_end = End
head_code (p_send q ps) = Send q
head_code (p_receive q ps) = Receive q
head_code (p_loop P) = Loop
head_code (p_back k) = Back k

head_read : (P : Part) → code_of (head P) ≡ head_code P
head_read p_end = refl
head_read (p_send q ps) = code_is 5 q (omega arith)
head_read (p_receive q ps) = code_is 6 q (omega arith)
head_read (p_loop P) = refl
head_read (p_back k) = code_is 4 k (omega arith)

head_alone : (P : Part) (d : Code) → arm_rule (head_code P) d ≡ None
head_alone p_end d = refl
head_alone (p_send q ps) d = refl
head_alone (p_receive q ps) d = refl
head_alone (p_loop P) d = refl
head_alone (p_back k) d = refl

-- two parts whose first words differ have no merge
unlike : (n : ℕ) (P Q : Part) (s : List ℕ) (a b : ℕ) (o : List ℕ) (at : ℕ) → Stands s a (codes P) → Stands s b (codes Q)
    → a + length (codes P) ≤ length s → b + length (codes Q) ≤ length s → at + length (codes P) + length (codes Q) ≤ MOST
    → (head P ≡ head Q → ⊥) → (merge_of (suc n) false s a b o at).res.ok ≡ false
unlike n P Q s a b o at g h q r t d =
    let u = words_some P in
    let v = words_some Q in
    rw
    (enter false n s a b o at (head P) (head Q) None (head_stands P s a g) (head_stands Q s b h)
    (rule_none (head P) (head Q) (head_code P) (head_code Q) d (head_read P) (head_read Q) (head_alone P (head_code Q)))
    (omega arith) (omega arith) (omega arith))

apart : (n : ℕ) (P Q : Part) → merge P Q ≡ none → (head P ≡ head Q → ⊥) → Merges (suc n) P Q
apart n P Q e d s a b o at a' b' u v g h l p q r ea eb = rw e (unlike n P Q s a b o at g h p q r d)

-- two rows without children
ends : (n : ℕ) → Merges (suc n) p_end p_end
unfolding merge codes
ends n s a b o at a' b' u v g h l p q r ea eb =
    let i : suc a ≡ a' = omega arith in
    let j : suc b ≡ b' = omega arith in
    let m : at + suc zero ≡ suc at = omega arith in
    enter false n s a b o at 0 0 (Some Leaf) g.0 h.0 (rule_same false 0 0 End refl refl) (omega arith) (omega arith) (omega arith) ∙ rw (i, j, m)

backs : (n k j : ℕ) → Merges (suc n) (p_back k) (p_back j)
unfolding merge codes only_if
backs n k j s a b o at a' b' u v g h l p q r ea eb = go (ℕ_discrete k j)
  where
    go : (d : Dec (k ≡ j)) → Gives codes a' b' o at (only_if d (some (p_back k))) (merge_of (suc n) false s a b o at)
    go (yes e) =
        let i : suc a ≡ a' = omega arith in
        let f : suc b ≡ b' = omega arith in
        let m : at + suc zero ≡ suc at = omega arith in
        enter false n s a b o at (code 4 k) (code 4 j) (Some Leaf) g.0 h.0 (rule_same false (code 4 k) (code 4 j) (Back k) (rw e) (code_is 4 k (omega arith))) (omega arith) (omega arith) (omega arith)
        ∙ rw (i, f, m)
    go (no d) = unlike n (p_back k) (p_back j) s a b o at g h p q r (λ e. d (omega arith))

-- two loops, by their bodies
loops : (n : ℕ) (P Q : Part) → Merges n P Q → Merges (suc n) (p_loop P) (p_loop Q)
unfolding merge codes
loops n P Q ih s a b o at a' b' (r_loop u) (r_loop v) g h l p q r ea eb =
    rw (enter false n s a b o at 3 3 (Some (Inside false)) g.0 h.0 (rule_same false 3 3 Loop refl refl) (omega arith) (omega arith) (omega arith))
    (gives_on codes codes p_loop (3 ∷ []) (λ M. refl) a' b' o at (suc at) (omega arith) (merge P Q) (merge_of n false s (suc a) (suc b) (set o at 3) (suc at))
    (ih s (suc a) (suc b) (set o at 3) (suc at) a' b' u v g.1 h.1 (omega arith) (omega arith) (omega arith) (omega arith) (omega arith) (omega arith)))

-- two receives, by their arms
receives : (n k j : ℕ) (ps qs : PartArms) → MergesArms false n ps qs → Merges (suc n) (p_receive k ps) (p_receive j qs)
unfolding merge codes only_if
receives n k j ps qs ih s a b o at a' b' (r_receive u) (r_receive v) g h l p q r ea eb = go (ℕ_discrete k j)
  where
    go : (d : Dec (k ≡ j)) → Gives codes a' b' o at (only_if d (bind (merge_arms ps qs) (λ ms. some (p_receive k ms)))) (merge_of (suc n) false s a b o at)
    go (yes e) =
        rw (enter false n s a b o at (code 6 k) (code 6 j) (Some (Inside false)) g.0 h.0 (rule_same false (code 6 k) (code 6 j) (Receive k) (rw e) (code_is 6 k (omega arith))) (omega arith) (omega arith) (omega arith))
        (gives_on codes_arms codes (λ ms. p_receive k ms) (code 6 k ∷ []) (λ ms. refl) a' b' o at (suc at) (omega arith) (merge_arms ps qs) (merge_of n false s (suc a) (suc b) (set o at (code 6 k)) (suc at))
        (ih s (suc a) (suc b) (set o at (code 6 k)) (suc at) a' b' u v g.1 h.1 (omega arith) (omega arith) (omega arith) (omega arith) (omega arith) (omega arith)))
    go (no d) = unlike n (p_receive k ps) (p_receive j qs) s a b o at g h p q r (λ e. d (omega arith))

cond_bind : {A B : Type 0} (c : Bool) (X : Option A) (f : A → Option B) → cond c (bind X f) none ≡ bind (cond c X none) f
unfolding bind
cond_bind true X f = refl
cond_bind false X f = refl

-- two sends, by their arms, which have the same labels
sends : (n k j : ℕ) (ps qs : PartArms) → MergesArms true n ps qs → Merges (suc n) (p_send k ps) (p_send j qs)
unfolding merge codes only_if
sends n k j ps qs ih s a b o at a' b' (r_send u) (r_send v) g h l p q r ea eb = go (ℕ_discrete k j)
  where
    go : (d : Dec (k ≡ j)) → Gives codes a' b' o at (only_if d (cond (same_labels ps qs) (bind (merge_arms ps qs) (λ ms. some (p_send k ms))) none)) (merge_of (suc n) false s a b o at)
    go (yes e) =
        rw (
          cond_bind (same_labels ps qs) (merge_arms ps qs) (λ ms. some (p_send k ms)),
          enter false n s a b o at (code 5 k) (code 5 j) (Some (Inside true)) g.0 h.0 (rule_same false (code 5 k) (code 5 j) (Send k) (rw e) (code_is 5 k (omega arith))) (omega arith) (omega arith) (omega arith),
        )
        (gives_on codes_arms codes (λ ms. p_send k ms) (code 5 k ∷ []) (λ ms. refl) a' b' o at (suc at) (omega arith) (arms_by true ps qs) (merge_of n true s (suc a) (suc b) (set o at (code 5 k)) (suc at))
        (ih s (suc a) (suc b) (set o at (code 5 k)) (suc at) a' b' u v g.1 h.1 (omega arith) (omega arith) (omega arith) (omega arith) (omega arith) (omega arith)))
    go (no d) = unlike n (p_send k ps) (p_send j qs) s a b o at g h p q r (λ e. d (omega arith))

-- ---- arms

-- the next arm of the first list alone, given the rest; y is the second list's first word
first_arm : (n l : ℕ) (P : Part) (ps qs : PartArms) → MergesArms false n ps qs → Above l qs → (y : ℕ) → rule false (code 2 l) y ≡ Some First
    → (s : List ℕ) (a b : ℕ) (o : List ℕ) (at a' b' : ℕ) → get_or s b 0 ≡ y → RisingArms (p_arm l P ps) → RisingArms qs → Stands s a (codes_arms (p_arm l P ps)) → Stands s b (codes_arms qs)
    → length (codes_arms (p_arm l P ps)) + length (codes_arms qs) ≤ suc n → a + length (codes_arms (p_arm l P ps)) ≤ length s → b + length (codes_arms qs) ≤ length s
    → at + length (codes_arms (p_arm l P ps)) + length (codes_arms qs) ≤ MOST → a' ≡ a + length (codes_arms (p_arm l P ps)) → b' ≡ b + length (codes_arms qs)
    → Gives codes_arms a' b' o at (merge_arms (p_arm l P ps) qs) (merge_of (suc n) false s a b o at)
unfolding codes
first_arm n l P ps qs ih below y er s a b o at a' b' ey (r_arm above u us) v g h len p q r ea eb =
    let c = suc a + length (codes P) in
    let t = suc at + length (codes P) in
    let i = set o at (code 2 l) in
    let (eg, gp, gs) = stands_arm s a c l P ps refl g in
    let w = words_arm l P ps in
    let w₁ = words_some P in
    let w₂ = words_some_arms ps in
    let w₃ = words_some_arms qs in
    rw (
      first_alone P above below,
      enter false n s a b o at (code 2 l) y (Some First) eg ey er (omega arith) (omega arith) (omega arith),
      copy_part P s (suc a) i (suc at) gp (omega arith) (omega arith),
    )
    (gives_on codes_arms codes_arms (λ ms. p_arm l P ms) (code 2 l ∷ codes P) (λ ms. refl) a' b' o at t (omega arith) (merge_arms ps qs) (merge_of n false s c b (sets i (suc at) (codes P)) t)
    (ih s c b (sets i (suc at) (codes P)) t a' b' us v gs h (omega arith) (omega arith) (omega arith) (omega arith) (omega arith) (omega arith)))

-- the next arm of the second list alone, given the rest; x is the first list's first word
second_arm : (n k : ℕ) (Q : Part) (ps qs : PartArms) → MergesArms false n ps qs → Above k ps → (x : ℕ) → rule false x (code 2 k) ≡ Some Second
    → (s : List ℕ) (a b : ℕ) (o : List ℕ) (at a' b' : ℕ) → get_or s a 0 ≡ x → RisingArms ps → RisingArms (p_arm k Q qs) → Stands s a (codes_arms ps) → Stands s b (codes_arms (p_arm k Q qs))
    → length (codes_arms ps) + length (codes_arms (p_arm k Q qs)) ≤ suc n → a + length (codes_arms ps) ≤ length s → b + length (codes_arms (p_arm k Q qs)) ≤ length s
    → at + length (codes_arms ps) + length (codes_arms (p_arm k Q qs)) ≤ MOST → a' ≡ a + length (codes_arms ps) → b' ≡ b + length (codes_arms (p_arm k Q qs))
    → Gives codes_arms a' b' o at (merge_arms ps (p_arm k Q qs)) (merge_of (suc n) false s a b o at)
unfolding codes
second_arm n k Q ps qs ih below x er s a b o at a' b' ex u (r_arm above v vs) g h len p q r ea eb =
    let c = suc b + length (codes Q) in
    let t = suc at + length (codes Q) in
    let i = set o at (code 2 k) in
    let (eh, hq, hs) = stands_arm s b c k Q qs refl h in
    let w = words_arm k Q qs in
    let w₁ = words_some Q in
    let w₂ = words_some_arms ps in
    let w₃ = words_some_arms qs in
    rw (
      second_alone Q qs below,
      enter false n s a b o at x (code 2 k) (Some Second) ex eh er (omega arith) (omega arith) (omega arith),
      copy_part Q s (suc b) i (suc at) hq (omega arith) (omega arith),
    )
    (gives_on codes_arms codes_arms (λ ms. p_arm k Q ms) (code 2 k ∷ codes Q) (λ ms. refl) a' b' o at t (omega arith) (merge_arms ps qs) (merge_of n false s a c (sets i (suc at) (codes Q)) t)
    (ih s a c (sets i (suc at) (codes Q)) t a' b' u vs g hs (omega arith) (omega arith) (omega arith) (omega arith) (omega arith) (omega arith)))

-- an arm of one label on both sides: X is the merge of its parts, Y that of the arms behind it
shared_rest : (l : ℕ) (Y : Option PartArms) (next : ℕ → ℕ → List ℕ → ℕ → Merge) (c d a' b' : ℕ) (o : List ℕ) (at : ℕ) (X : Option Part) (one : Merge)
    → Gives codes c d (set o at (code 2 l)) (suc at) X one
    → ((M : Part) → X ≡ some M
    → Gives codes_arms a' b' (sets (set o at (code 2 l)) (suc at) (codes M)) (suc at + length (codes M)) Y (next c d (sets (set o at (code 2 l)) (suc at) (codes M)) (suc at + length (codes M))))
    → Gives codes_arms a' b' o at (bind X (λ M. bind Y (λ ms. some (p_arm l M ms)))) (after one next)
unfolding codes bind
shared_rest l Y next c d a' b' o at none one h f = rw h
shared_rest l Y next c d a' b' o at (some M) one h f =
    let t = suc at + length (codes M) in
    let i = sets (set o at (code 2 l)) (suc at) (codes M) in
    rw h
    (gives_on codes_arms codes_arms (λ ms. p_arm l M ms) (code 2 l ∷ codes M) (λ ms. refl) a' b' o at t (omega arith) Y (next c d i t) (f M refl))

-- the label of an arm of both, and those behind it
shared_by : (exact : Bool) {l : ℕ} (P Q : Part) {ps qs : PartArms} → Above l ps → Above l qs
    → arms_by exact (p_arm l P ps) (p_arm l Q qs) ≡ bind (merge P Q) (λ M. bind (arms_by exact ps qs) (λ ms. some (p_arm l M ms)))
unfolding same_labels bind
shared_by false P Q above below = shared P Q above below
shared_by true {l} P Q {ps} {qs} above below = rw (eq-eqb l l refl, shared P Q above below) (go (same_labels ps qs) (merge P Q))
  where
    go : (c : Bool) (X : Option Part)
        → cond c (bind X (λ M. bind (merge_arms ps qs) (λ ms. some (p_arm l M ms)))) none ≡ bind X (λ M. bind (cond c (merge_arms ps qs) none) (λ ms. some (p_arm l M ms)))
    go true X = refl
    go false none = refl
    go false (some M) = refl

-- an arm of one label on both sides, given its part and the rest
shared_arm : (exact : Bool) (n l k : ℕ) (P Q : Part) (ps qs : PartArms) → Merges n P Q → MergesArms exact n ps qs → l ≡ k → MergesArms exact (suc n) (p_arm l P ps) (p_arm k Q qs)
unfolding codes
shared_arm exact n l k P Q ps qs ip ia e s a b o at a' b' (r_arm above u us) (r_arm below v vs) g h len p q r ea eb =
    let f : k ≡ l = sym e in
    let c = suc a + length (codes P) in
    let d = suc b + length (codes Q) in
    let i = set o at (code 2 l) in
    let (eg, gp, gs) = stands_arm s a c l P ps refl g in
    let (eh, hq, hs) = stands_arm s b d k Q qs refl h in
    let w = words_arm l P ps in
    let y = words_arm k Q qs in
    let w₁ = words_some P in
    let w₂ = words_some_arms ps in
    let w₃ = words_some Q in
    let w₄ = words_some_arms qs in
    let one = ip s (suc a) (suc b) i (suc at) c d u v gp hq (omega arith) (omega arith) (omega arith) (omega arith) refl refl in
    rw (
      f,
      shared_by exact P Q above (rw f at below),
      enter exact n s a b o at (code 2 l) (code 2 k) (Some Both) eg eh (rule_same exact (code 2 l) (code 2 k) (Arm l) (rw e) (code_is 2 l (omega arith))) (omega arith) (omega arith) (omega arith),
    )
    (shared_rest l (arms_by exact ps qs) (merge_of n exact s) c d a' b' o at (merge P Q) (merge_of n false s (suc a) (suc b) i (suc at)) one
    (λ M m.
    let small = merge_words P Q m in
    let t = suc at + length (codes M) in
    ia s c d (sets i (suc at) (codes M)) t a' b' us vs gs hs (omega arith) (omega arith) (omega arith) (omega arith) (omega arith) (omega arith)))

-- the marks behind two last arms
nils : (exact : Bool) (n : ℕ) → MergesArms exact (suc n) p_nil p_nil
unfolding merge same_labels codes
nils exact n s a b o at a' b' u v g h l p q r ea eb =
    let i : suc a ≡ a' = omega arith in
    let j : suc b ≡ b' = omega arith in
    let m : at + suc zero ≡ suc at = omega arith in
    go exact (enter exact n s a b o at 1 1 (Some Leaf) g.0 h.0 (rule_same exact 1 1 Mark refl refl) (omega arith) (omega arith) (omega arith) ∙ rw (i, j, m))
  where
    go : (e : Bool) {m : Merge} → m ≡ wrote a' b' o at (1 ∷ []) → Gives codes_arms a' b' o at (arms_by e p_nil p_nil) m
    go true f = f
    go false f = f

arms : (n l k : ℕ) (P Q : Part) (ps qs : PartArms) → Merges n P Q → MergesArms false n ps qs → MergesArms false n ps (p_arm k Q qs) → MergesArms false n (p_arm l P ps) qs
    → MergesArms false (suc n) (p_arm l P ps) (p_arm k Q qs)
unfolding codes
arms n l k P Q ps qs ip ia first second s a b o at a' b' (r_arm above u us) (r_arm below v vs) g h len p q r ea eb = go (ltb l k) (ltb k l) refl refl
  where
    go : (x y : Bool) → ltb l k ≡ x → ltb k l ≡ y → Gives codes_arms a' b' o at (merge_arms (p_arm l P ps) (p_arm k Q qs)) (merge_of (suc n) false s a b o at)
    go true y e f =
        let m = ltb-true l k e in
        first_arm n l P ps (p_arm k Q qs) first (label m (above_above m below)) (code 2 k) (rule_first l k m) s a b o at a' b' h.0
        (r_arm above u us) (r_arm below v vs) g h len p q r ea eb
    go false true e f =
        let m = ltb-true k l f in
        second_arm n k Q (p_arm l P ps) qs second (label m (above_above m above)) (code 2 l) (rule_second l k m) s a b o at a' b' g.0
        (r_arm above u us) (r_arm below v vs) g h len p q r ea eb
    go false false e f =
        shared_arm false n l k P Q ps qs ip ia (omega (arith, ltb-false l k e, ltb-false k l f)) s a b o at a' b' (r_arm above u us) (r_arm below v vs) g h len p q r ea eb

-- arms of two sends whose next labels differ: x and y are their first words
no_arms : (n : ℕ) (ps qs : PartArms) → same_labels ps qs ≡ false → (s : List ℕ) (a b : ℕ) (o : List ℕ) (at a' b' x y : ℕ) → get_or s a 0 ≡ x → get_or s b 0 ≡ y
    → (x ≡ y → ⊥) → a < length s → b < length s → at < MOST → Gives codes_arms a' b' o at (arms_by true ps qs) (merge_of (suc n) true s a b o at)
no_arms n ps qs f s a b o at a' b' x y ex ey d p q r =
    rw (f, enter true n s a b o at x y None ex ey (rule_exact x y d) p q r)

exact_arms : (n l k : ℕ) (P Q : Part) (ps qs : PartArms) → Merges n P Q → MergesArms true n ps qs → MergesArms true (suc n) (p_arm l P ps) (p_arm k Q qs)
unfolding codes same_labels
exact_arms n l k P Q ps qs ip ia s a b o at a' b' u v g h len p q r ea eb = go (ℕ_discrete l k)
  where
    go : Dec (l ≡ k) → Gives codes_arms a' b' o at (arms_by true (p_arm l P ps) (p_arm k Q qs)) (merge_of (suc n) true s a b o at)
    go (yes e) = shared_arm true n l k P Q ps qs ip ia e s a b o at a' b' u v g h len p q r ea eb
    go (no d) =
        no_arms n (p_arm l P ps) (p_arm k Q qs) (rw (ne_eqb l k d)) s a b o at a' b' (code 2 l) (code 2 k) g.0 h.0 (λ e. d (omega arith))
        (omega arith) (omega arith) (omega arith)

-- two parts, given all calls with one row fewer
parts_from : (n : ℕ) → ((P Q : Part) → Merges n P Q) → ((exact : Bool) (ps qs : PartArms) → MergesArms exact n ps qs) → (P Q : Part) → Merges (suc n) P Q
unfolding merge codes
parts_from n e f p_end p_end = ends n
parts_from n e f p_end (p_send j qs) = apart n p_end (p_send j qs) refl (λ d. omega arith)
parts_from n e f p_end (p_receive j qs) = apart n p_end (p_receive j qs) refl (λ d. omega arith)
parts_from n e f p_end (p_loop Q) = apart n p_end (p_loop Q) refl (λ d. omega arith)
parts_from n e f p_end (p_back j) = apart n p_end (p_back j) refl (λ d. omega arith)
parts_from n e f (p_send k ps) p_end = apart n (p_send k ps) p_end refl (λ d. omega arith)
parts_from n e f (p_send k ps) (p_send j qs) = sends n k j ps qs (f true ps qs)
parts_from n e f (p_send k ps) (p_receive j qs) = apart n (p_send k ps) (p_receive j qs) refl (λ d. omega arith)
parts_from n e f (p_send k ps) (p_loop Q) = apart n (p_send k ps) (p_loop Q) refl (λ d. omega arith)
parts_from n e f (p_send k ps) (p_back j) = apart n (p_send k ps) (p_back j) refl (λ d. omega arith)
parts_from n e f (p_receive k ps) p_end = apart n (p_receive k ps) p_end refl (λ d. omega arith)
parts_from n e f (p_receive k ps) (p_send j qs) = apart n (p_receive k ps) (p_send j qs) refl (λ d. omega arith)
parts_from n e f (p_receive k ps) (p_receive j qs) = receives n k j ps qs (f false ps qs)
parts_from n e f (p_receive k ps) (p_loop Q) = apart n (p_receive k ps) (p_loop Q) refl (λ d. omega arith)
parts_from n e f (p_receive k ps) (p_back j) = apart n (p_receive k ps) (p_back j) refl (λ d. omega arith)
parts_from n e f (p_loop P) p_end = apart n (p_loop P) p_end refl (λ d. omega arith)
parts_from n e f (p_loop P) (p_send j qs) = apart n (p_loop P) (p_send j qs) refl (λ d. omega arith)
parts_from n e f (p_loop P) (p_receive j qs) = apart n (p_loop P) (p_receive j qs) refl (λ d. omega arith)
parts_from n e f (p_loop P) (p_loop Q) = loops n P Q (e P Q)
parts_from n e f (p_loop P) (p_back j) = apart n (p_loop P) (p_back j) refl (λ d. omega arith)
parts_from n e f (p_back k) p_end = apart n (p_back k) p_end refl (λ d. omega arith)
parts_from n e f (p_back k) (p_send j qs) = apart n (p_back k) (p_send j qs) refl (λ d. omega arith)
parts_from n e f (p_back k) (p_receive j qs) = apart n (p_back k) (p_receive j qs) refl (λ d. omega arith)
parts_from n e f (p_back k) (p_loop Q) = apart n (p_back k) (p_loop Q) refl (λ d. omega arith)
parts_from n e f (p_back k) (p_back j) = backs n k j

-- two arm lists, given all calls with one row fewer
arms_from : (n : ℕ) → ((P Q : Part) → Merges n P Q) → ((exact : Bool) (ps qs : PartArms) → MergesArms exact n ps qs) → (exact : Bool) (ps qs : PartArms)
    → MergesArms exact (suc n) ps qs
unfolding codes same_labels
arms_from n e f exact p_nil p_nil = nils exact n
arms_from n e f false p_nil (p_arm k Q qs) = λ s a b o at a' b' u v g h.
    second_arm n k Q p_nil qs (f false p_nil qs) no_label 1 (rule_second_last k) s a b o at a' b' g.0 u v g h
arms_from n e f false (p_arm k P ps) p_nil = λ s a b o at a' b' u v g h.
    first_arm n k P ps p_nil (f false ps p_nil) no_label 1 (rule_first_last k) s a b o at a' b' h.0 u v g h
arms_from n e f false (p_arm k P ps) (p_arm j Q qs) = arms n k j P Q ps qs (e P Q) (f false ps qs) (f false ps (p_arm j Q qs)) (f false (p_arm k P ps) qs)
arms_from n e f true p_nil (p_arm k Q qs) = λ s a b o at a' b' u v g h len p q r ea eb.
    no_arms n p_nil (p_arm k Q qs) refl s a b o at a' b' 1 (code 2 k) g.0 h.0 (λ d. omega arith) (omega arith) (omega arith) (omega arith)
arms_from n e f true (p_arm k P ps) p_nil = λ s a b o at a' b' u v g h len p q r ea eb.
    no_arms n (p_arm k P ps) p_nil refl s a b o at a' b' (code 2 k) 1 g.0 h.0 (λ d. omega arith) (omega arith) (omega arith) (omega arith)
arms_from n e f true (p_arm k P ps) (p_arm j Q qs) = exact_arms n k j P Q ps qs (e P Q) (f true ps qs)

all_merges : (n : ℕ) → ((P Q : Part) → Merges n P Q) × ((exact : Bool) (ps qs : PartArms) → MergesArms exact n ps qs)
all_merges zero = (
  λ P Q s a b o at a' b' u v g h l. absurd (omega (arith, words_some P)),
  λ exact ps qs s a b o at a' b' u v g h l. absurd (omega (arith, words_some_arms ps)),
)
all_merges (suc n) =
    let (e, f) = all_merges n in
    (parts_from n e f, arms_from n e f)

-- ---- what callers cite

-- the parts at a and b, merged
pub merge_is : (P Q : Part) (left : ℕ) (s : List ℕ) (a b : ℕ) (o : List ℕ) (at : ℕ) → Rising P → Rising Q → Stands s a (codes P) → Stands s b (codes Q)
    → length (codes P) + length (codes Q) ≤ left → a + length (codes P) ≤ length s → b + length (codes Q) ≤ length s → at + length (codes P) + length (codes Q) ≤ MOST
    → Gives codes (a + length (codes P)) (b + length (codes Q)) o at (merge P Q) (merge_of left false s a b o at)
merge_is P Q left s a b o at u v g h l p q r = (all_merges left).0 P Q s a b o at (a + length (codes P)) (b + length (codes Q)) u v g h l p q r refl refl

-- the arm lists at a and b, merged
pub merge_is_arms : (ps qs : PartArms) (left : ℕ) (s : List ℕ) (a b : ℕ) (o : List ℕ) (at : ℕ) → RisingArms ps → RisingArms qs → Stands s a (codes_arms ps) → Stands s b (codes_arms qs)
    → length (codes_arms ps) + length (codes_arms qs) ≤ left → a + length (codes_arms ps) ≤ length s → b + length (codes_arms qs) ≤ length s → at + length (codes_arms ps) + length (codes_arms qs) ≤ MOST
    → Gives codes_arms (a + length (codes_arms ps)) (b + length (codes_arms qs)) o at (merge_arms ps qs) (merge_of left false s a b o at)
merge_is_arms ps qs left s a b o at u v g h l p q r = (all_merges left).1 false ps qs s a b o at (a + length (codes_arms ps)) (b + length (codes_arms qs)) u v g h l p q r refl refl
