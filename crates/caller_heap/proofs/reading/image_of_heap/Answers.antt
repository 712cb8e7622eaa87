use Rattle.std.proofs.Common.{◌≡◌, ◌⊎◌, ◌++◌, ◌<◌, ◌^◌, List, ℕ, Some, length, ap, subst, arith, rules}
use Rattle.image_streams.specs.declared.fault.Fault.TheVariants.{Memory}
use Rattle.heap_image.specs.ImageText.{first_fault, text}
use Rattle.image_streams.specs.Numbers.{numbers}
use Rattle.caller_heap.specs.HeapWords.{heap_bytes}
use Rattle.caller_heap.proofs.Lemmas.HeapBytes.{version_of_bytes, words_of_bytes, tail_of_bytes}
use Rattle.caller_heap.proofs.reading.image_of_heap.Goals as goal

pub returns-in-Err-clause-fault : goal.returns-in-Err-clause-fault
returns-in-Err-clause-fault c =
    let fault = c.without_device.result in
    let rest : List ℕ = numbers c.args.words.now ++ numbers c.args.tail.now in
    subst (λ bytes. (fault ≡ Memory) ⊎ (first_fault bytes ≡ Some fault)) (ap (λ front. front ++ rest) c.front_of-front.ensures) (c.without_device.ensures (c.front_of-front.result ++ rest) c.in-Err.ensures.refused.reason)

-- the bytes of the heap are the text of its image
told : (c : goal.In-Ok) → heap_bytes c.args.version c.args.settings c.args.words.now c.args.tail.now ≡ text c.in-Ok.image
told c = search rules

pub returns-in-Ok-clause-version : goal.returns-in-Ok-clause-version
returns-in-Ok-clause-version c = version_of_bytes c.args.version c.args.settings c.args.words.now c.args.tail.now c.in-Ok.image c.in-Ok.ensures.read.valid (told c) c.text_tells_its_size.ensures.version

pub returns-in-Ok-clause-words : goal.returns-in-Ok-clause-words
returns-in-Ok-clause-words c =
    let few : length c.args.words.now < 2 ^ 64 = omega arith in
    words_of_bytes c.args.version c.args.settings c.args.words.now c.args.tail.now c.in-Ok.image c.in-Ok.ensures.read.valid (told c) few (c.text_tells_its_size.ensures.words c.in-Ok.image c.in-Ok.ensures.read.valid)

pub returns-in-Ok-clause-tail : goal.returns-in-Ok-clause-tail
returns-in-Ok-clause-tail c =
    let few : length c.args.words.now < 2 ^ 64 = omega arith in
    tail_of_bytes c.args.version c.args.settings c.args.words.now c.args.tail.now c.in-Ok.image c.in-Ok.ensures.read.valid (told c) few (c.text_tells_its_size.ensures.words c.in-Ok.image c.in-Ok.ensures.read.valid) c.text_tells_its_size.ensures.numbers
