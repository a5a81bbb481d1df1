-- The earliest fault that a reader logs is the earliest of the tree's: the roles of its head, then its body. Assumes nothing.
use Prim.Native.Nat.{ℕ, suc, ◌+◌, ◌≤◌}
use mathlib.Core.Bool.{Bool, true, false, cond}
use mathlib.Core.List.{List, [], ◌∷◌, ◌++◌, append_assoc, append-nil}
use mathlib.Core.Path.{◌≡◌, refl, sym, subst, ◌∙◌, ap}
use native.Mathlib.Omega.{arith}
use lib.Dec.{leb}
use lib.ListN.{length, drop}
use lib.Seq.{drop-nil}
use Rattle.table.specs.Limits.{Limits}
use Rattle.scribble.specs.Grammar.{Name, name_at, SyntaxTree, protocol}
use Rattle.scribble.specs.Names.{spelled, stands_at, is_in, firsts, spellings}
use Rattle.scribble.specs.Meaning.{labels_in, roles_of}
use Rattle.scribble.specs.Refusals.{too_many, too_long_among, listed_twice, last_faults_in, choice_faults_in, name_faults_in, rows_met_in, faults_of, Fault, blame, fault_when, shown_before, Finding, faultless, deciding, NAME, MANY, too_long, faults21, faults22, faults23, faults24}
use Rattle.scribble.specs.mirror.Reader.{ReaderState, body, Frame, frame, logged, name_met, list_as, role_listed, expecting, block_opened, begun, recs_in}
use Rattle.scribble.specs.mirror.Acts.{names_met, roles_listed, do_tree}
use Rattle.scribble.proofs.Meet.{meet, meet_none, meet_assoc, meet_comm, meet_left_comm}
use Rattle.scribble.proofs.Cut.{SeenBelow, none_below, one_below, shown_all}
use Rattle.scribble.proofs.Firsts.{spellings_append, spellings_length, firsts_more, listed_twice_more, too_many_more}
use Rattle.scribble.proofs.Tally.{earliest, earliest_append, total, more_n, more_l, more_c, At, names_log}
use Rattle.scribble.proofs.Found.{block_told}

pub too_long_append : (xs ys : List Name) → too_long_among (xs ++ ys) ≡ too_long_among xs ++ too_long_among ys
unfolding too_long_among
too_long_append [] ys = refl
too_long_append (x ∷ xs) ys = ap (λ (l : List Fault). too_long x ++ l) (too_long_append xs ys) ∙ sym (append_assoc (too_long x) (too_long_among xs) (too_long_among ys))

-- the roles listed so far, and the log; the rest is as it was in s₀
pub record Listed (lim : Limits) (e : ℕ) (h : Finding) (ns : List Name) (s₀ s : ReaderState) : Type 0 where
  pub roles_are : s.roles ≡ spellings (firsts [] ns)
  pub labels_stay : s.labels ≡ s₀.labels
  pub rows_stay : s.rows ≡ s₀.rows
  pub frames_stay : s.frames ≡ s₀.frames
  pub log_is : earliest e s.log ≡ total h (earliest e (too_long_among ns)) (earliest e (listed_twice [] ns)) (earliest e (too_many (drop lim.roles (firsts [] ns)))) faultless faultless

module _ (lim : Limits) (e : ℕ) (h : Finding) where
  -- one role more
  list_as_log : (ns : List Name) (n : Name) (s₀ s : ReaderState) (t : Bool) → is_in (spelled n) s.roles ≡ t → Listed lim e h ns s₀ s
      → Listed lim e h (ns ++ (n ∷ [])) s₀ (list_as lim t (stands_at n) (spelled n) (name_met (stands_at n) (spelled n) s))
  unfolding too_long_among
  list_as_log ns n s₀ s t w a =
      let fs = firsts [] ns in
      let f = blame (stands_at n) NAME (stands_at n) in
      let ln = too_long n in
      let J = earliest e in
      let w' : is_in (spelled n) (spellings fs) ≡ t = ap (λ (rs : List (List ℕ)). is_in (spelled n) rs) (sym a.roles_are) ∙ w in
      let firsts₁ : firsts [] (ns ++ (n ∷ [])) ≡ fs ++ cond t [] (n ∷ []) = firsts_more [] ns n ∙ ap (λ (z : Bool). fs ++ cond z [] (n ∷ [])) w' in
      let twice₁ : listed_twice [] (ns ++ (n ∷ [])) ≡ listed_twice [] ns ++ fault_when t f = listed_twice_more [] ns n ∙ ap (λ (z : Bool). listed_twice [] ns ++ fault_when z f) w' in
      let longs₁ : too_long_among (ns ++ (n ∷ [])) ≡ too_long_among ns ++ ln = too_long_append ns (n ∷ []) ∙ ap (λ (l : List Fault). too_long_among ns ++ l) (append-nil ln) in
      let log₁ : J (s.log ++ ln) ≡ total h (J (too_long_among (ns ++ (n ∷ [])))) (J (listed_twice [] ns)) (J (too_many (drop lim.roles fs))) faultless faultless
      = earliest_append e s.log ln ∙ (ap (λ (z : Finding). meet z (J ln)) a.log_is
      ∙ more_n h (J (too_long_among ns)) (J (listed_twice [] ns)) (J (too_many (drop lim.roles fs))) faultless faultless (J ln) (J (too_long_among (ns ++ (n ∷ []))))
      (sym (earliest_append e (too_long_among ns) ln) ∙ ap J (sym longs₁))) in
      by t (firsts₁) (twice₁) log₁
    where
      by : (t : Bool) → firsts [] (ns ++ (n ∷ [])) ≡ firsts [] ns ++ cond t [] (n ∷ []) → listed_twice [] (ns ++ (n ∷ [])) ≡ listed_twice [] ns ++ fault_when t (blame (stands_at n) NAME (stands_at n))
          → earliest e (s.log ++ too_long n) ≡ total h (earliest e (too_long_among (ns ++ (n ∷ [])))) (earliest e (listed_twice [] ns)) (earliest e (too_many (drop lim.roles (firsts [] ns)))) faultless faultless
          → Listed lim e h (ns ++ (n ∷ [])) s₀ (list_as lim t (stands_at n) (spelled n) (name_met (stands_at n) (spelled n) s))
      by true f₁ t₁ l₁ =
          let g = blame (stands_at n) NAME (stands_at n) ∷ [] in
          let f₂ = f₁ ∙ append-nil (firsts [] ns) in
          record {
            roles_are = a.roles_are ∙ ap (λ (z : List Name). spellings z) (sym f₂);
            labels_stay = a.labels_stay;
            rows_stay = a.rows_stay;
            frames_stay = a.frames_stay;
            log_is = earliest_append e (s.log ++ too_long n) g ∙ (ap (λ (z : Finding). meet z (earliest e g)) l₁
                ∙ (more_l h (earliest e (too_long_among (ns ++ (n ∷ [])))) (earliest e (listed_twice [] ns)) (earliest e (too_many (drop lim.roles (firsts [] ns)))) faultless faultless (earliest e g) (earliest e (listed_twice [] (ns ++ (n ∷ []))))
                (sym (earliest_append e (listed_twice [] ns) g) ∙ ap (earliest e) (sym t₁))
                ∙ ap (λ (z : List Name). total h (earliest e (too_long_among (ns ++ (n ∷ [])))) (earliest e (listed_twice [] (ns ++ (n ∷ [])))) (earliest e (too_many (drop lim.roles z))) faultless faultless) (sym f₂)));
          }
      by false f₁ t₁ l₁ =
          let k = leb lim.roles (length s.roles) in
          let g = fault_when k (blame (stands_at n) MANY (stands_at n)) in
          let t₂ = t₁ ∙ append-nil (listed_twice [] ns) in
          let p₁ : too_many (drop lim.roles (firsts [] ns)) ++ g ≡ too_many (drop lim.roles (firsts [] (ns ++ (n ∷ []))))
          = ap (λ (z : ℕ). too_many (drop lim.roles (firsts [] ns)) ++ fault_when (leb lim.roles z) (blame (stands_at n) MANY (stands_at n))) (ap length a.roles_are ∙ spellings_length (firsts [] ns))
          ∙ (sym (too_many_more lim.roles (firsts [] ns) n) ∙ ap (λ (z : List Name). too_many (drop lim.roles z)) (sym f₁)) in
          record {
            roles_are = ap (λ (z : List (List ℕ)). z ++ (spelled n ∷ [])) a.roles_are ∙ (sym (spellings_append (firsts [] ns) (n ∷ [])) ∙ ap (λ (z : List Name). spellings z) (sym f₁));
            labels_stay = a.labels_stay;
            rows_stay = a.rows_stay;
            frames_stay = a.frames_stay;
            log_is = earliest_append e (s.log ++ too_long n) g ∙ (ap (λ (z : Finding). meet z (earliest e g)) l₁
                ∙ (more_c h (earliest e (too_long_among (ns ++ (n ∷ [])))) (earliest e (listed_twice [] ns)) (earliest e (too_many (drop lim.roles (firsts [] ns)))) faultless faultless (earliest e g) (earliest e (too_many (drop lim.roles (firsts [] (ns ++ (n ∷ []))))))
                (sym (earliest_append e (too_many (drop lim.roles (firsts [] ns))) g) ∙ ap (earliest e) p₁)
                ∙ ap (λ (z : List Fault). total h (earliest e (too_long_among (ns ++ (n ∷ [])))) (earliest e z) (earliest e (too_many (drop lim.roles (firsts [] (ns ++ (n ∷ [])))))) faultless faultless) (sym t₂)));
          }

  listed_all : (rs ns : List Name) (s₀ s : ReaderState) → Listed lim e h ns s₀ s → Listed lim e h (ns ++ rs) s₀ (roles_listed lim rs s)
  unfolding roles_listed role_listed
  listed_all [] ns s₀ s a = subst (λ (z : List Name). Listed lim e h z s₀ s) (sym (append-nil ns)) a
  listed_all (name_at b x ∷ rs) ns s₀ s a =
      let s₁ = role_listed lim b x (name_met b x s) in
      subst (λ (z : List Name). Listed lim e h z s₀ (roles_listed lim rs s₁)) (append_assoc ns (name_at b x ∷ []) rs)
      (listed_all rs (ns ++ (name_at b x ∷ [])) s₀ s₁ (list_as_log ns (name_at b x) s₀ s (is_in x s.roles) refl a))

-- ten lists of faults, as the reader meets them (five of the head, five of the body) and as `faults_of` has them
ten : (a b c d f n l x r y : Finding)
    → total (total (meet a b) c d f faultless faultless) n l x r y ≡ meet (meet (meet (meet (meet (meet (meet a b) c) d) n) x) l) (meet (meet f y) r)
unfolding total meet
ten a b c d f n l x r y = simp (meet_assoc, meet_comm, meet_left_comm, meet_none)

apart : (e : ℕ) (a b c d n x l f y r : List Fault)
    → earliest e ((a ++ b ++ c ++ d ++ n) ++ x ++ l ++ (f ++ y ++ r))
    ≡ meet (meet (meet (meet (meet (meet (meet (earliest e a) (earliest e b)) (earliest e c)) (earliest e d)) (earliest e n)) (earliest e x)) (earliest e l))
    (meet (meet (earliest e f) (earliest e y)) (earliest e r))
apart e a b c d n x l f y r = simp earliest_append

no_names : [] ≡ spellings (firsts [] [])
unfolding firsts
no_names = refl

module _ (lim : Limits) (e : ℕ) where
  none_listed : (h : Finding) → total h (earliest e (too_long_among [])) (earliest e (listed_twice [] [])) (earliest e (too_many (drop lim.roles (firsts [] [])))) faultless faultless ≡ h
  unfolding total meet shown_before deciding too_long_among listed_twice too_many firsts
  none_listed h = rw (drop-nil {A = Name} lim.roles) (meet_none h)

  none_told : (h : Finding) → total h (earliest e []) (earliest e []) (earliest e []) (earliest e (drop lim.rows [])) (earliest e (too_many (drop lim.labels (firsts [] [])))) ≡ h
  unfolding total meet shown_before deciding too_many firsts
  none_told h = rw (drop-nil {A = Name} lim.labels, drop-nil {A = Fault} lim.rows) (meet_none h)

-- the reader behind the first `{` of the protocol
abbrev pub headed : Limits → List Name → Name → List Name → ReaderState
headed lim m n rs = block_opened lim (expecting body (roles_listed lim rs (names_met (n ∷ []) (names_met m begun))))

-- the faults of the head
abbrev pub head_faults : Limits → ℕ → List Name → Name → List Name → Finding
head_faults lim e m n rs =
    total (meet (earliest e (too_long_among m)) (earliest e (too_long n))) (earliest e (too_long_among rs)) (earliest e (listed_twice [] rs)) (earliest e (too_many (drop lim.roles (firsts [] rs)))) faultless faultless

pub head_told : (lim : Limits) (e : ℕ) (m : List Name) (n : Name) (rs : List Name)
    → At lim e (head_faults lim e m n rs) (spellings (firsts [] rs)) (headed lim m n rs) [] [] [] [] (firsts [] [])
    × ((headed lim m n rs).frames ≡ frame body true false ∷ []) × ((headed lim m n rs).rows ≡ [])
unfolding names_met too_long_among
head_told lim e m n rs =
    let J = earliest e in
    let s₀ = names_met (n ∷ []) (names_met m begun) in
    let s₁ = roles_listed lim rs s₀ in
    let h = meet (J (too_long_among m)) (J (too_long n)) in
    let k₀ : s₀ ≡ logged (too_long_among (n ∷ [])) (logged (too_long_among m) begun) = names_log (n ∷ []) (names_met m begun) ∙ ap (logged (too_long_among (n ∷ []))) (names_log m begun) in
    let log₀ : J s₀.log ≡ h
    = ap (λ (z : ReaderState). J z.log) k₀ ∙ (ap (λ (z : List Fault). J (too_long_among m ++ z)) (append-nil (too_long n)) ∙ earliest_append e (too_long_among m) (too_long n)) in
    let a₀ : Listed lim e h [] s₀ s₀ = record {
      roles_are = ap (λ (z : ReaderState). z.roles) k₀ ∙ no_names;
      labels_stay = refl;
      rows_stay = refl;
      frames_stay = refl;
      log_is = log₀ ∙ sym (none_listed lim e h);
    } in
    let a₁ = listed_all lim e h rs [] s₀ s₀ a₀ in
    let rows₀ = a₁.rows_stay ∙ ap (λ (z : ReaderState). z.rows) k₀ in (
      record {
        roles_are = a₁.roles_are;
        labels_are = a₁.labels_stay ∙ (ap (λ (z : ReaderState). z.labels) k₀ ∙ no_names);
        rows_are = ap length rows₀;
        log_is = a₁.log_is ∙ sym (none_told lim e (head_faults lim e m n rs));
      },
      ap (λ (z : List Frame). frame body true false ∷ z) (a₁.frames_stay ∙ ap (λ (z : ReaderState). z.frames) k₀),
      rows₀,
    )

-- THEOREM: of the faults that are shown before a place, the earliest that the reader logs is the earliest of the tree
pub found : (lim : Limits) (t : SyntaxTree) (e : ℕ) → earliest e (do_tree lim t).log ≡ earliest e (faults_of lim t)
unfolding do_tree faults_of faults21 faults22 faults23 faults24 roles_of recs_in
found lim (protocol m n rs b) e =
    let J = earliest e in
    let roles = roles_of (protocol m n rs b) in
    let k₁ = head_told lim e m n rs in
    let k = block_told lim e (head_faults lim e m n rs) roles b (headed lim m n rs) body true false [] [] k₁.1 refl k₁.0 in
    k.0.log_is
    ∙ (ten (J (too_long_among m)) (J (too_long n)) (J (too_long_among rs)) (J (listed_twice [] rs)) (J (too_many (drop lim.roles (firsts [] rs))))
    (J (name_faults_in roles b [])) (J (last_faults_in b false)) (J (choice_faults_in b)) (J (drop lim.rows (rows_met_in b false false))) (J (too_many (drop lim.labels (firsts [] (labels_in b)))))
    ∙ sym (apart e (too_long_among m) (too_long n) (too_long_among rs) (listed_twice [] rs) (name_faults_in roles b []) (choice_faults_in b) (last_faults_in b false)
    (too_many (drop lim.roles (firsts [] rs))) (too_many (drop lim.labels (firsts [] (labels_in b)))) (drop lim.rows (rows_met_in b false false))))

-- the reader's roles are those of the tree
pub roles_found : (lim : Limits) (t : SyntaxTree) → (do_tree lim t).roles ≡ roles_of t
unfolding do_tree roles_of
roles_found lim (protocol m n rs b) =
    let k₁ = head_told lim 0 m n rs in
    (block_told lim 0 (head_faults lim 0 m n rs) (spellings (firsts [] rs)) b (headed lim m n rs) body true false [] [] k₁.1 refl k₁.0).0.roles_are

-- a place beyond all that show a fault
high : List Fault → ℕ
high [] = 0
high (f ∷ fs) = suc f.seen + high fs

below_high : (fs : List Fault) (e : ℕ) → high fs ≤ e → SeenBelow e fs
unfolding high
below_high [] e l = none_below
below_high (f ∷ fs) e l = one_below {f = f} (omega arith) (below_high fs e (omega arith))

pub all_found : (lim : Limits) (t : SyntaxTree) → deciding (do_tree lim t).log ≡ deciding (faults_of lim t)
all_found lim t =
    let xs = (do_tree lim t).log in
    let ys = faults_of lim t in
    let e = high xs + high ys in
    ap deciding (sym (shown_all (below_high xs e (omega arith)))) ∙ (found lim t e ∙ ap deciding (shown_all (below_high ys e (omega arith))))
