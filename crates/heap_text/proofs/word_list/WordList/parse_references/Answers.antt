use Rattle.std.proofs.Common.{refl, sym, codes}
use Rattle.std.specs.Prelude.{option_map}
use Rattle.heap_text.proofs.Lemmas.PartSteps.{references_begin, references_missing, references_step, references_data, references_end, not_named, some_none}
use Rattle.heap_text.proofs.word_list.WordList.parse_references.Goals as goal

pub returns-in_default : goal.returns-in_default
returns-in_default c = record {
  accepts = λ refs others fits some is room. references_missing c.args.len c.args.tokens.now.rest.now c.next_reference.new.self.rest.now c.next_reference.result
      refs others fits some is c.in_default.is c.next_reference.ensures;
}

pub loop-token-init : goal.loop-token-init
loop-token-init c refs others fits some is room =
    references_begin c.args.self.now c.push_word.new.self c.args.tokens.now.rest.now c.next_reference.new.self.rest.now c.in-Some.first c.args.len refs others
    fits some is room c.in-Some.ensures (λ low. c.in_ok-push_word.ensures.pushed low)

pub loop-token-preserved : goal.loop-token-preserved
loop-token-preserved c refs others fits some is room =
    references_step c.args.len c.args.self.now c.loop-token.self c.push_word-in-Some-parse_reference.new.self c.loop-token.tokens.rest.now
    c.next_token.new.self.rest.now c.in-Some-next_token.token.now c.in-Some-parse_reference.reference refs others c.requires.few
    (c.loop-token.invariant refs others fits some is room) (λ e. some_none _ (c.in-Some-next_token.ensures.none e).0) c.in-Some-next_token.ensures.some
    c.in-Some-parse_reference.ensures.reference (λ e. some_none _ (c.in-Some-parse_reference.ensures.data e)) room
    (λ low. c.in_ok-push_word-in-Some-parse_reference.ensures.pushed low)

pub returns-in-None : goal.returns-in-None
returns-in-None c = record {
  accepts = λ refs others fits some is room.
      let both = references_data c.args.len c.args.self.now c.loop-token.self c.loop-token.tokens.rest.now c.next_token.new.self.rest.now
      c.in-Some-next_token.token.now refs others c.parse_reference.result c.requires.few (c.loop-token.invariant refs others fits some is room)
      (λ e. some_none _ (c.in-Some-next_token.ensures.none e).0) c.in-Some-next_token.ensures.some c.in-None.is c.parse_reference.ensures.reference in
      (sym both.1.some, both.0, both.1.rest_is);
}

pub returns-in-None-2 : goal.returns-in-None-2
returns-in-None-2 c = record {
  accepts = λ refs others fits some is room.
      let both = references_data c.args.len c.args.self.now c.loop-token.self c.loop-token.tokens.rest.now c.next_token.new.self.rest.now
      c.in-Some-next_token.token.now refs others c.parse_reference.result c.requires.few (c.loop-token.invariant refs others fits some is room)
      (λ e. some_none _ (c.in-Some-next_token.ensures.none e).0) c.in-Some-next_token.ensures.some c.in-None-2.is c.parse_reference.ensures.reference in
      absurd (not_named c.in-Some-next_token.token.now c.as_slice.result.now (codes "data") c.if-eq.ensures c.as_slice.ensures both.1.token_is);
}

pub returns : goal.returns
returns c = record {
  accepts = λ refs others fits some is room.
      references_end c.args.len c.args.self.now c.loop-token.self c.loop-token.tokens.rest.now c.next_token.new.self.rest.now refs others
      (option_map (λ t. t.now) c.next_token.result) c.requires.few (c.loop-token.invariant refs others fits some is room)
      (rw c.in_default-next_token.is refl) c.next_token.ensures.some (λ e. (c.next_token.ensures.none e).1);
}
