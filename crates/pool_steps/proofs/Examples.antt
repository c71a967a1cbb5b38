-- Releases of slot 1 in a pool of three slots, the third free, with counter 7.
use Rattle.std.specs.Prelude.{◌≡◌, refl, true, false, [], ◌∷◌}
use Rattle.slot_rows.specs.Rows.{file, unbound, bound}
use Rattle.pool_state.specs.State.{State, choosing}
use Rattle.pool_state.specs.Queue.{queued, spent}
use Rattle.pool_state.specs.Changes.{with_row}
use Rattle.pool_steps.specs.Steps.{unbinds, released}

-- Slots 0 and 1 hold "a" and "b", the second one dirty and of 9 bytes.
three : State
three =
    record {
      chosen = choosing 4 0;
      rows = bound (97 ∷ []) (file 5 0 false) ∷ bound (98 ∷ []) (file 6 9 true) ∷ unbound 0 ∷ [];
      dirs = [];
      queue = 2 ∷ [];
      counter = 7;
    }

-- Done: unbound under generation 7, and last in the queue.
done_rows : (released 1 true three).rows ≡ bound (97 ∷ []) (file 5 0 false) ∷ unbound 7 ∷ unbound 0 ∷ []
unfolding three released queued unbinds spent with_row
done_rows = refl

done_queue : (released 1 true three).queue ≡ 2 ∷ 1 ∷ []
unfolding three released queued unbinds spent with_row
done_queue = refl

done_counter : (released 1 true three).counter ≡ 8
unfolding three released queued unbinds spent with_row
done_counter = refl

-- Stopped: neither bound nor free, and the generation is spent.
stopped_row : (released 1 false three).rows ≡ (released 1 true three).rows
unfolding three released queued unbinds spent with_row
stopped_row = refl

stopped_queue : (released 1 false three).queue ≡ 2 ∷ []
unfolding three released queued unbinds spent with_row
stopped_queue = refl
