use Rattle.std.proofs.Common.{◌≡◌, ◌*◌, ◌++◌, [], take, drop, sym, ◌∙◌, ap, subst, refl, arith, append_assoc}
use Rattle.std.proofs.lemmas.List.{append-nil}
use Rattle.std.proofs.lemmas.Result.{err_from_is_err_and}
use Rattle.std.specs.Io.KnownBytes.{Appends}
use Rattle.object_heap.specs.HeapImage.{region_words, region_count, block_of}
use Rattle.heap_image.specs.ImageText.{text, with_tail}
use Rattle.image_streams.specs.Numbers.{numbers}
use Rattle.image_streams.specs.Outgoing.{unsent_bytes, Sends, TakesBeginning}
use Rattle.heap_image.proofs.Lemmas.Sending.{first, front_is, text_split, block_first, block_more, all_blocks}
use Rattle.heap_image.proofs.io.write.write_through.Goals as goal

pub returns-in_err-give_all-clause-beginning : goal.returns-in_err-give_all-clause-beginning
returns-in_err-give_all-clause-beginning g c =
    let p = err_from_is_err_and c.from_residual.result c.from_residual.ensures.1 in
    let image = c.args.image.now in
    let start = g.W.Outlet.took c.args.writer.now in
    let fronted = g.W.Outlet.took c.give_all.new.writer in
    let front_bytes : c.to_bytes.result ≡ first image = front_is image c.version.result c.region_log.result c.tail.result.now c.len.result c.allowance.result c.to_bytes.result c.version.ensures.value c.region_log.ensures.value c.tail.ensures.value c.len.ensures.value c.allowance.ensures c.to_bytes.ensures in
    let begun : TakesBeginning start fronted (first image) = subst (λ bytes. TakesBeginning start fronted bytes) front_bytes c.give_all.ensures.beginning in
    rw (p.1) (subst (λ bytes. TakesBeginning start fronted bytes) (sym (append_assoc (first image) (numbers image.words) (numbers (with_tail image).live))) (c.pieces_sent.ensures.beginning start fronted (first image) (numbers image.words ++ numbers (with_tail image).live) begun))

pub loop-r-init : goal.loop-r-init
loop-r-init g c = record {
  room = c.new-outgoing.ensures.room;
  sent = let none : 0 * region_words c.args.image.now ≡ 0 = omega arith in rw none (c.pieces_sent.ensures.nothing (g.W.Outlet.took c.give_all.new.writer) (unsent_bytes c.new-outgoing.result));
  failed = refl;
}

pub returns-in_err-write_region-clause-beginning : goal.returns-in_err-write_region-clause-beginning
returns-in_err-write_region-clause-beginning g c =
    let p = err_from_is_err_and c.from_residual-in_err-write_region.result c.from_residual-in_err-write_region.ensures.1 in
    let image = c.args.image.now in
    let start = g.W.Outlet.took c.args.writer.now in
    let fronted = g.W.Outlet.took c.give_all.new.writer in
    let front_bytes : c.to_bytes.result ≡ first image = front_is image c.version.result c.region_log.result c.tail.result.now c.len.result c.allowance.result c.to_bytes.result c.version.ensures.value c.region_log.ensures.value c.tail.ensures.value c.len.ensures.value c.allowance.ensures c.to_bytes.ensures in
    let opened : Sends start fronted [] [] (first image) = c.pieces_sent.ensures.given start fronted (first image) (subst (λ bytes. Appends start fronted bytes) front_bytes c.in_ok-give_all.ensures.bytes) in
    let so_far = c.loop-r.invariant in
    let written = numbers (take (c.loop-r.r * region_words image) image.words) in
    let looped = g.W.Outlet.took c.loop-r.writer in
    let sent : Sends start looped [] (unsent_bytes c.loop-r.outgoing) (first image ++ written) = c.pieces_sent.ensures.in_turn start fronted looped [] [] (unsent_bytes c.loop-r.outgoing) (first image) written opened (subst (λ held. Sends fronted looped held (unsent_bytes c.loop-r.outgoing) written) c.new-outgoing.ensures.held so_far.sent) in
    let block : c.region.result.now ≡ block_of image c.loop-r.r = c.region.ensures in
    let end = g.W.Outlet.took c.write_region.new.writer in
    let behind = numbers (drop (region_words image) (drop (c.loop-r.r * region_words image) image.words)) in
    let begun : TakesBeginning looped end (unsent_bytes c.loop-r.outgoing ++ numbers (block_of image c.loop-r.r)) = subst (λ b. TakesBeginning looped end (unsent_bytes c.loop-r.outgoing ++ numbers b)) block c.in_err-write_region.ensures.beginning in
    let whole : (first image ++ written) ++ (numbers (block_of image c.loop-r.r) ++ (behind ++ numbers (with_tail image).live)) ≡ text image =
    ap (λ l. (first image ++ written) ++ l) (sym (append_assoc (numbers (block_of image c.loop-r.r)) behind (numbers (with_tail image).live)) ∙ ap (λ l. l ++ numbers (with_tail image).live) (sym (block_first image c.loop-r.r))) ∙ text_split image (c.loop-r.r * region_words image) in
    rw (p.1) (subst (λ bytes. TakesBeginning start end bytes) whole (c.pieces_sent.ensures.cut_off start looped end (unsent_bytes c.loop-r.outgoing) (first image ++ written) (numbers (block_of image c.loop-r.r)) (behind ++ numbers (with_tail image).live) sent begun))

pub loop-r-preserved : goal.loop-r-preserved
loop-r-preserved g c =
    let image = c.args.image.now in
    let so_far = c.loop-r.invariant in
    let fronted = g.W.Outlet.took c.give_all.new.writer in
    let looped = g.W.Outlet.took c.loop-r.writer in
    let end = g.W.Outlet.took c.write_region.new.writer in
    let block : c.region.result.now ≡ block_of image c.loop-r.r = c.region.ensures in
    let more = c.pieces_sent.ensures.in_turn fronted looped end (unsent_bytes c.new-outgoing.result) (unsent_bytes c.loop-r.outgoing) (unsent_bytes c.write_region.new.self) (numbers (take (c.loop-r.r * region_words image) image.words)) (numbers c.region.result.now) so_far.sent c.in_ok-write_region.ensures.bytes in
    let grown = ap (λ b. numbers (take (c.loop-r.r * region_words image) image.words) ++ numbers b) block ∙ sym (block_more image c.loop-r.r) in
    record {
      room = c.in_ok-write_region.ensures.room;
      sent = subst (λ bytes. Sends fronted end (unsent_bytes c.new-outgoing.result) (unsent_bytes c.write_region.new.self) bytes) grown more;
      failed = c.in_ok-write_region.ensures.failed ∙ so_far.failed;
    }

pub returns-in_err-write-clause-beginning : goal.returns-in_err-write-clause-beginning
returns-in_err-write-clause-beginning g c =
    let p = err_from_is_err_and c.from_residual-in_err-write.result c.from_residual-in_err-write.ensures.1 in
    let image = c.args.image.now in
    let start = g.W.Outlet.took c.args.writer.now in
    let fronted = g.W.Outlet.took c.give_all.new.writer in
    let front_bytes : c.to_bytes.result ≡ first image = front_is image c.version.result c.region_log.result c.tail.result.now c.len.result c.allowance.result c.to_bytes.result c.version.ensures.value c.region_log.ensures.value c.tail.ensures.value c.len.ensures.value c.allowance.ensures c.to_bytes.ensures in
    let opened : Sends start fronted [] [] (first image) = c.pieces_sent.ensures.given start fronted (first image) (subst (λ bytes. Appends start fronted bytes) front_bytes c.in_ok-give_all.ensures.bytes) in
    let so_far = c.loop-r.invariant in
    let written = numbers (take (c.loop-r.r * region_words image) image.words) in
    let looped = g.W.Outlet.took c.loop-r.writer in
    let sent : Sends start looped [] (unsent_bytes c.loop-r.outgoing) (first image ++ written) = c.pieces_sent.ensures.in_turn start fronted looped [] [] (unsent_bytes c.loop-r.outgoing) (first image) written opened (subst (λ held. Sends fronted looped held (unsent_bytes c.loop-r.outgoing) written) c.new-outgoing.ensures.held so_far.sent) in
    let valid = c.region_log.ensures.valid in
    let count : c.loop-r.r ≡ region_count image = let last = c.loop-r-test.false in let upto = c.loop-r.auto in let is = c.regions-r-end.ensures.value in omega arith in
    let words : numbers (take (c.loop-r.r * region_words image) image.words) ≡ numbers image.words = ap numbers (all_blocks image valid c.loop-r.r count) in
    let live : c.tail-2.result.now ≡ (with_tail image).live = c.tail-2.ensures.value in
    let end = g.W.Outlet.took c.write.new.writer in
    let begun : TakesBeginning looped end (unsent_bytes c.loop-r.outgoing ++ numbers (with_tail image).live) = subst (λ l. TakesBeginning looped end (unsent_bytes c.loop-r.outgoing ++ numbers l)) live c.in_err-write.ensures.beginning in
    let whole : (first image ++ written) ++ (numbers (with_tail image).live ++ []) ≡ text image = ap (λ l. (first image ++ written) ++ l) (append-nil (numbers (with_tail image).live)) ∙ ap (λ w. (first image ++ w) ++ numbers (with_tail image).live) words in
    rw (p.1) (subst (λ bytes. TakesBeginning start end bytes) whole (c.pieces_sent.ensures.cut_off start looped end (unsent_bytes c.loop-r.outgoing) (first image ++ written) (numbers (with_tail image).live) [] sent begun))

pub returns-in_err-flush-clause-beginning : goal.returns-in_err-flush-clause-beginning
returns-in_err-flush-clause-beginning g c =
    let p = err_from_is_err_and c.from_residual-in_err-flush.result c.from_residual-in_err-flush.ensures.1 in
    let image = c.args.image.now in
    let start = g.W.Outlet.took c.args.writer.now in
    let fronted = g.W.Outlet.took c.give_all.new.writer in
    let front_bytes : c.to_bytes.result ≡ first image = front_is image c.version.result c.region_log.result c.tail.result.now c.len.result c.allowance.result c.to_bytes.result c.version.ensures.value c.region_log.ensures.value c.tail.ensures.value c.len.ensures.value c.allowance.ensures c.to_bytes.ensures in
    let opened : Sends start fronted [] [] (first image) = c.pieces_sent.ensures.given start fronted (first image) (subst (λ bytes. Appends start fronted bytes) front_bytes c.in_ok-give_all.ensures.bytes) in
    let so_far = c.loop-r.invariant in
    let written = numbers (take (c.loop-r.r * region_words image) image.words) in
    let looped = g.W.Outlet.took c.loop-r.writer in
    let sent : Sends start looped [] (unsent_bytes c.loop-r.outgoing) (first image ++ written) = c.pieces_sent.ensures.in_turn start fronted looped [] [] (unsent_bytes c.loop-r.outgoing) (first image) written opened (subst (λ held. Sends fronted looped held (unsent_bytes c.loop-r.outgoing) written) c.new-outgoing.ensures.held so_far.sent) in
    let valid = c.region_log.ensures.valid in
    let count : c.loop-r.r ≡ region_count image = let last = c.loop-r-test.false in let upto = c.loop-r.auto in let is = c.regions-r-end.ensures.value in omega arith in
    let words : numbers (take (c.loop-r.r * region_words image) image.words) ≡ numbers image.words = ap numbers (all_blocks image valid c.loop-r.r count) in
    let live : c.tail-2.result.now ≡ (with_tail image).live = c.tail-2.ensures.value in
    let listed = g.W.Outlet.took c.write.new.writer in
    let end = g.W.Outlet.took c.flush.new.writer in
    let all : Sends start listed [] (unsent_bytes c.write.new.self) ((first image ++ written) ++ numbers c.tail-2.result.now) = c.pieces_sent.ensures.in_turn start looped listed [] (unsent_bytes c.loop-r.outgoing) (unsent_bytes c.write.new.self) (first image ++ written) (numbers c.tail-2.result.now) sent c.in_ok-write.ensures.bytes in
    let begun : TakesBeginning listed end (unsent_bytes c.write.new.self ++ []) = subst (λ bytes. TakesBeginning listed end bytes) (sym (append-nil (unsent_bytes c.write.new.self))) c.in_err-flush.ensures.beginning in
    let whole : ((first image ++ written) ++ numbers c.tail-2.result.now) ++ ([] ++ []) ≡ text image = append-nil ((first image ++ written) ++ numbers c.tail-2.result.now) ∙ ap (λ l. (first image ++ written) ++ numbers l) live ∙ ap (λ w. (first image ++ w) ++ numbers (with_tail image).live) words in
    rw (p.1) (subst (λ bytes. TakesBeginning start end bytes) whole (c.pieces_sent.ensures.cut_off start listed end (unsent_bytes c.write.new.self) ((first image ++ written) ++ numbers c.tail-2.result.now) [] [] all begun))

pub returns-clause-text : goal.returns-clause-text
returns-clause-text g c =
    let image = c.args.image.now in
    let start = g.W.Outlet.took c.args.writer.now in
    let fronted = g.W.Outlet.took c.give_all.new.writer in
    let front_bytes : c.to_bytes.result ≡ first image = front_is image c.version.result c.region_log.result c.tail.result.now c.len.result c.allowance.result c.to_bytes.result c.version.ensures.value c.region_log.ensures.value c.tail.ensures.value c.len.ensures.value c.allowance.ensures c.to_bytes.ensures in
    let opened : Sends start fronted [] [] (first image) = c.pieces_sent.ensures.given start fronted (first image) (subst (λ bytes. Appends start fronted bytes) front_bytes c.in_ok-give_all.ensures.bytes) in
    let so_far = c.loop-r.invariant in
    let written = numbers (take (c.loop-r.r * region_words image) image.words) in
    let looped = g.W.Outlet.took c.loop-r.writer in
    let sent : Sends start looped [] (unsent_bytes c.loop-r.outgoing) (first image ++ written) = c.pieces_sent.ensures.in_turn start fronted looped [] [] (unsent_bytes c.loop-r.outgoing) (first image) written opened (subst (λ held. Sends fronted looped held (unsent_bytes c.loop-r.outgoing) written) c.new-outgoing.ensures.held so_far.sent) in
    let valid = c.region_log.ensures.valid in
    let count : c.loop-r.r ≡ region_count image = let last = c.loop-r-test.false in let upto = c.loop-r.auto in let is = c.regions-r-end.ensures.value in omega arith in
    let words : numbers (take (c.loop-r.r * region_words image) image.words) ≡ numbers image.words = ap numbers (all_blocks image valid c.loop-r.r count) in
    let live : c.tail-2.result.now ≡ (with_tail image).live = c.tail-2.ensures.value in
    let listed = g.W.Outlet.took c.write.new.writer in
    let end = g.W.Outlet.took c.flush.new.writer in
    let all : Sends start listed [] (unsent_bytes c.write.new.self) ((first image ++ written) ++ numbers c.tail-2.result.now) = c.pieces_sent.ensures.in_turn start looped listed [] (unsent_bytes c.loop-r.outgoing) (unsent_bytes c.write.new.self) (first image ++ written) (numbers c.tail-2.result.now) sent c.in_ok-write.ensures.bytes in
    let whole : (first image ++ written) ++ numbers c.tail-2.result.now ≡ text image = ap (λ l. (first image ++ written) ++ numbers l) live ∙ ap (λ w. (first image ++ w) ++ numbers (with_tail image).live) words in
    subst (λ bytes. Appends start end bytes) whole (c.pieces_sent.ensures.flushed start listed end (unsent_bytes c.write.new.self) ((first image ++ written) ++ numbers c.tail-2.result.now) all c.in_ok-flush.ensures.bytes)
