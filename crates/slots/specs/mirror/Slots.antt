-- One queue's slots in a column: one of them written, and the first taken out. Assumes nothing.
use Rattle.std.specs.Prelude.{ℕ, ◌+◌, ◌*◌, cond, ◌&&◌, List, [], ◌∷◌, ◌++◌, ltb, get_or, set, take, drop}
use Rattle.std.proofs.lemmas.List.Edits.{sets}
use Rattle.table.specs.Limits.{Limits}

-- the ordered pairs of roles
abbrev pub pairs : Limits → ℕ
pairs lim = lim.roles * lim.roles

-- the slots of a pair, and others written there
abbrev pub slots : {A : Type 0} → Limits → List A → ℕ → List A
slots lim ws pair = take lim.depth (drop (pair * lim.depth) ws)

abbrev pub written : {A : Type 0} → Limits → List A → ℕ → List A → List A
written lim ws pair held = sets ws (pair * lim.depth) held

-- x in slot k of that pair
abbrev pub pushed_at : {A : Type 0} → Limits → List A → ℕ → ℕ → A → List A
pushed_at lim ws pair k x = cond (ltb pair (pairs lim) && ltb k lim.depth) (set ws (pair * lim.depth + k) x) ws

-- the words of a queue without the first: the rest come forward, and the last is free
abbrev pub forward : {A : Type 0} → A → List A → List A
forward free [] = []
forward free (w ∷ ws) = ws ++ (free ∷ [])

-- the first slot of that pair, and the words without it
abbrev pub oldest : {A : Type 0} → Limits → A → List A → ℕ → A
oldest lim free ws pair = cond (ltb pair (pairs lim)) (get_or ws (pair * lim.depth + 0) free) free

abbrev pub came_forward : {A : Type 0} → Limits → A → List A → ℕ → List A
came_forward lim free ws pair = cond (ltb pair (pairs lim)) (written lim ws pair (forward free (slots lim ws pair))) ws
