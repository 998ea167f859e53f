use Rattle.std.proofs.Common.{◌≡◌, ◌+◌, ◌++◌, length, take, drop, refl, sym, ap, ◌∙◌, arith}
use Rattle.std.proofs.lemmas.List.{drop-drop, drop_at, length-append, length-take-le, take_all, take_at}
use Rattle.std.proofs.lemmas.Slice.{put_mid-paste}
use Rattle.net_writing.proofs.cursors.Cursor.put.Goals as goal

pub returns : goal.returns
returns c =
    let cursor = c.args.self.now in
    let bytes = c.args.bytes.now in
    let end = cursor.at + length bytes in
    let front = take cursor.at cursor.buffer.now ++ bytes in
    let long : length front ≡ end = length-append (take cursor.at cursor.buffer.now) bytes ∙ omega (arith, c.requires.room.fits, cursor.within, length-take-le cursor.at cursor.buffer.now cursor.within) in
    let holds = put_mid-paste cursor.at _ cursor.buffer.now c.copy_from_slice.new.self bytes (length bytes) c.copy_from_slice.ensures.after (omega arith) refl
    ∙ ap (λ bs. (take cursor.at cursor.buffer.now ++ bs) ++ drop end cursor.buffer.now) (take_all (length bytes) bytes (omega arith)) in
    record {
      puts_the_bytes = record {
        same_buffer = refl;
        writes = ap (take end) holds ∙ take_at front (drop end cursor.buffer.now) end long;
        leaves = ap (drop end) holds ∙ drop_at front (drop end cursor.buffer.now) end long ∙ sym (drop-drop (length bytes) cursor.at cursor.buffer.now);
      };
    }
