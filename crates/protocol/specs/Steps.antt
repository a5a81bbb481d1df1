-- The step rules of the global protocol: one constructor for each of its five rules. A is the type of payloads.
-- The relation is inductive, so a step is allowed only where finitely many uses of the rules come down to rule 1 or 2. Assumes nothing.
use Rattle.std.specs.Prelude.{ℕ, ◌≢◌, ◌≡◌}
use Rattle.table.specs.Tree.{Global, exchange, flight, loop, Arms, nil, arm}
use Rattle.protocol.specs.Unrolled.{unrolled}

-- sender, receiver, label, payload
pub data Action (A : Type 0) : Type 0 where
  send receive : ℕ → ℕ → ℕ → A → Action A

-- the role that acts
abbrev pub subject : {A : Type 0} → Action A → ℕ
subject (send p q l v) = p
subject (receive p q l v) = q

-- the arm of that label, with its continuation: the first, where a label stood twice
pub data ArmOf {A : Type 0} : ℕ → Global A → Arms A → Type 0 where
  here : {l k : ℕ} {G : Global A} {cs : Arms A} → l ≡ k → ArmOf l G (arm k G cs)
  there : {l k : ℕ} {G H : Global A} {cs : Arms A} → l ≢ k → ArmOf l G cs → ArmOf l G (arm k H cs)

-- there is an arm
pub data SomeArm {A : Type 0} : Arms A → Type 0 where
  some_arm : {l : ℕ} {G : Global A} {cs : Arms A} → SomeArm (arm l G cs)

mutual
  -- Step a G G': the protocol that has come to G allows the action a, which takes it to G'
  pub data Step {A : Type 0} : Action A → Global A → Global A → Type 0 where
    -- 1. An unsent exchange: its sender may send any arm's label. It is then in flight with that arm and payload
    rule_1 : {p q l : ℕ} {v : A} {cs : Arms A} {G : Global A}
        → ArmOf l G cs → Step (send p q l v) (exchange p q cs) (flight p q l v G)
    -- 2. An exchange in flight: its receiver may receive it; the chosen continuation remains
    rule_2 : {p q l : ℕ} {v : A} {G : Global A} → Step (receive p q l v) (flight p q l v G) G
    -- 3. A loop steps as its body with each of its backs replaced by the loop
    rule_3 : {a : Action A} {B G : Global A} → Step a (unrolled B) G → Step a (loop B) G
    -- 4. Past an unsent exchange, a role that is neither its sender nor its receiver may take a step that every arm allows; every arm takes it
    rule_4 : {a : Action A} {p q : ℕ} {cs cs' : Arms A}
        → subject a ≢ p → subject a ≢ q → SomeArm cs → Steps a cs cs' → Step a (exchange p q cs) (exchange p q cs')
    -- 5. Past an exchange in flight, any role but its receiver may take a step that the chosen arm allows; only that arm takes it
    rule_5 : {a : Action A} {p q l : ℕ} {v : A} {G G' : Global A}
        → subject a ≢ q → Step a G G' → Step a (flight p q l v G) (flight p q l v G')

  -- every arm takes the step
  pub data Steps {A : Type 0} : Action A → Arms A → Arms A → Type 0 where
    no_arm : {a : Action A} → Steps a nil nil
    each_arm : {a : Action A} {l : ℕ} {G G' : Global A} {cs cs' : Arms A}
        → Step a G G' → Steps a cs cs' → Steps a (arm l G cs) (arm l G' cs')
