-- The state, and what a call changes of it. Assumes nothing.
use Rattle.std.specs.Prelude.{ℕ, pred, ◌+◌, ◌*◌, Bool, List, [], ◌∷◌, ◌++◌, set, take, drop, replicate}
use Rattle.std.proofs.lemmas.List.Edits.{sets}
use Rattle.table.specs.Limits.{Limits}
use Rattle.state.specs.State as lists
use Rattle.state.specs.State.{pair, slot}
use Rattle.session.specs.declared.Session.{Session}

-- what a session holds, and the definitions of `state` for it
abbrev pub listed : Session → lists.State
listed s = record { heads = s.heads; counts = s.counts; labels = s.labels; payloads = s.payloads }

abbrev pub head_of : Session → ℕ → ℕ
head_of s r = lists.head_of (listed s) r

abbrev pub held : Limits → Session → ℕ → ℕ → ℕ
held lim s p q = lists.held lim (listed s) p q

abbrev pub label_at : Limits → Session → ℕ → ℕ → ℕ → ℕ
label_at lim s p q k = lists.label_at lim (listed s) p q k

abbrev pub payload_at : Limits → Session → ℕ → ℕ → ℕ → ℕ
payload_at lim s p q k = lists.payload_at lim (listed s) p q k

abbrev pub state_good : Limits → List ℕ → ℕ → Session → Bool
state_good lim ts roles s = lists.state_good lim ts roles (listed s)

-- the state with nothing in it
abbrev pub nothing : Limits → Session
nothing lim = record {
  heads = replicate lim.roles 0;
  counts = replicate (lim.roles * lim.roles) 0;
  labels = replicate (lim.roles * lim.roles * lim.depth) 0;
  payloads = replicate (lim.roles * lim.roles * lim.depth) 0;
}

-- role r moved to row i
abbrev pub moved : Session → ℕ → ℕ → Session
moved s r i = record { heads = set s.heads r i; counts = s.counts; labels = s.labels; payloads = s.payloads }

-- a message put behind those that the queue from p to q holds
abbrev pub pushed : Limits → Session → ℕ → ℕ → ℕ → ℕ → Session
pushed lim s p q l v =
    let n = held lim s p q in
    record {
      heads = s.heads;
      counts = set s.counts (pair lim p q) (n + 1);
      labels = set s.labels (slot lim p q n) l;
      payloads = set s.payloads (slot lim p q n) v;
    }

-- the slots of one queue, and they without the first: the rest come forward, and the last is 0
abbrev pub slots : Limits → List ℕ → ℕ → ℕ → List ℕ
slots lim ws p q = take lim.depth (drop (slot lim p q 0) ws)

abbrev pub forward : List ℕ → List ℕ
forward [] = []
forward (w ∷ ws) = ws ++ (0 ∷ [])

-- the oldest message taken from the queue from p to q
abbrev pub taken : Limits → Session → ℕ → ℕ → Session
taken lim s p q =
    let n = held lim s p q in
    record {
      heads = s.heads;
      counts = set s.counts (pair lim p q) (pred n);
      labels = sets s.labels (slot lim p q 0) (forward (slots lim s.labels p q));
      payloads = sets s.payloads (slot lim p q 0) (forward (slots lim s.payloads p q));
    }
