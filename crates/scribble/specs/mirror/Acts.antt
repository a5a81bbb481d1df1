-- What a reader has done when it has read a tree of the grammar. Assumes nothing.
use Rattle.std.specs.Prelude.{ℕ, List, [], ◌∷◌}
use Rattle.table.specs.Limits.{Limits}
use Rattle.scribble.specs.Grammar.{Name, name_at, Stmt, message, choice, recursion, continue, Block, ends, then, Blocks, no_more, or, SyntaxTree, protocol}
use Rattle.scribble.specs.Names.{spelled, stands_at}
use Rattle.scribble.specs.mirror.Reader.{ReaderState, q_stmt, go_to, name_met, statement_begun, label_met, sender_met, receiver_met, chooser_met, rec_met, continue_met, special, block_opened, message_ends, block_closes, role_listed, body, expecting, begun, q_done}

unfoldable pub names_met : List Name → ReaderState → ReaderState
names_met [] s = s
names_met (name_at b x ∷ ns) s = names_met ns (name_met b x s)

module _ (lim : Limits) where
  -- a message has been read
  unfoldable pub message_read : Name → List Name → Name → Name → ℕ → ReaderState → ReaderState
  unfolding names_met
  message_read l ns p q e s =
      message_ends lim e (receiver_met lim (stands_at q) (spelled q) (sender_met lim (stands_at p) (spelled p)
      (names_met ns (label_met lim (stands_at l) (spelled l) (name_met (stands_at l) (spelled l) (statement_begun lim (stands_at l) s))))))

  unfoldable mutual
    pub do_stmt : Stmt → ReaderState → ReaderState
    do_stmt (message l ns p q e) s = go_to q_stmt (message_read l ns p q e s)
    do_stmt (choice c p first others) s = do_blocks others (do_block first (block_opened lim (chooser_met lim (stands_at p) (spelled p) (special lim c s))))
    do_stmt (recursion c x b) s = do_block b (block_opened lim (rec_met lim (stands_at x) (spelled x) (special lim c s)))
    do_stmt (continue c x) s = go_to q_stmt (continue_met lim (stands_at x) (spelled x) (special lim c s))

    pub do_block : Block → ReaderState → ReaderState
    do_block (ends c) s = block_closes lim c s
    do_block (then t b) s = do_block b (do_stmt t s)

    pub do_blocks : Blocks → ReaderState → ReaderState
    do_blocks no_more s = s
    do_blocks (or b bs) s = do_blocks bs (do_block b (block_opened lim s))

  unfoldable pub roles_listed : List Name → ReaderState → ReaderState
  roles_listed [] s = s
  roles_listed (name_at b x ∷ ns) s = roles_listed ns (role_listed lim b x (name_met b x s))

  unfoldable pub do_tree : SyntaxTree → ReaderState
  unfolding roles_listed names_met do_block
  do_tree (protocol m n rs b) = go_to q_done (do_block b (block_opened lim (expecting body (roles_listed rs (names_met (n ∷ []) (names_met m begun))))))
