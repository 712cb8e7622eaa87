-- Words of an image that has the layout of images in files.
use Rattle.std.proofs.Common.{◌≡◌, ap}
use Rattle.std.specs.Prelude.{map}
use Rattle.object_heap.specs.Layout.{Layout, Own, size_in, references_in, reference_in, redirected_in}
use Rattle.object_heap.specs.HeapImage.{HeapImage}
use Rattle.summary.specs.Compaction.{redirected}
use Rattle.summary.specs.Own.{IsOwn}

pub is_own : (image : HeapImage) → image.layout ≡ Own → IsOwn image
is_own image own = record {
  layout = own;
  sizes = λ w. ap (λ (y : Layout). size_in y w) own;
  references = λ w. ap (λ (y : Layout). references_in y w) own;
  leads = λ w. ap (λ (y : Layout). reference_in y w) own;
  redirects = λ w. ap (λ (y : Layout). redirected_in y w (redirected image (reference_in y w))) own;
  redirects_all = λ ws. ap (λ (y : Layout). map (λ w. redirected_in y w (redirected image (reference_in y w))) ws) own;
}
