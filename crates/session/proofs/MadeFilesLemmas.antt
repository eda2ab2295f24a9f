-- Files that were just made: what they state and which pages they stand for.
use Rattle.std.proofs.Common.{◌≡◌, ◌<◌, ℕ, IsTrue, List, sym, ◌∙◌, ap, subst, arith}
use Rattle.std.proofs.Math.Nat.{mul-le-mul_right}
use Rattle.mdc_ast.specs.Database.{empty_database}
use Rattle.mdc_outside.specs.Disk.{File}
use Rattle.store_api.specs.Extents.{is_shape}
use Rattle.store_api.specs.declared.shape.Shape.{Shape}
use Rattle.table_trees.specs.ToldPages.{PageList}
use Rattle.mdc_sound.specs.StandsForDatabase.{PagesStandFor}
use Rattle.page_file.specs.Layout.{file_page}
use Rattle.page_store.specs.Empty.{IsEmptyDatabase}
use Rattle.page_store.specs.Fresh.{HoldsFresh, fresh_file}
use Rattle.page_store.specs.Shape.{extent_pages_in, extents_in}
use Rattle.page_store.specs.Standing.{pages_in}
use Rattle.page_store.proofs.FreshDatabase.{fresh_birth, fresh_is_empty, is_birth}
use Rattle.page_store.proofs.Roots.{limits_of}
use Rattle.file_verdict.specs.SoundFile.{StatesExtents}
use Rattle.session.specs.script.Leaving.{AreServedPages}
use Rattle.session.specs.file.MadePages.{made_pages}
use Rattle.session.specs.file.Well.{AreWell, IsWell}
use Rattle.session.proofs.WellFilesLemmas.{synced_well}

-- the numbers of a shape have four bytes
fits_extents : (extents extent_pages : ℕ) → IsTrue (is_shape extents extent_pages) → extents < 4294967296
fits_extents extents extent_pages shape = omega (arith, (limits_of extents extent_pages shape).few)

fits_pages : (extents extent_pages : ℕ) → IsTrue (is_shape extents extent_pages) → extent_pages < 4294967296
fits_pages extents extent_pages shape =
    let limits = limits_of extents extent_pages shape in
    omega (arith, limits.all, mul-le-mul_right extent_pages limits.some)

-- a file that was made states its shape
pub made_states : (extents extent_pages : ℕ) (file : List ℕ) → IsTrue (is_shape extents extent_pages) → file ≡ fresh_file extents extent_pages
    → (extents_in (file_page file 1) ≡ extents) × (extent_pages_in (file_page file 1) ≡ extent_pages)
made_states extents extent_pages file shape is =
    let birth = is_birth extents extent_pages (file_page file 1) (fits_extents extents extent_pages shape) (fits_pages extents extent_pages shape) shape
    (ap (λ bytes. file_page bytes 1) is ∙ fresh_birth extents extent_pages) in
    (birth.1, birth.2)

-- it is an empty database
made_empty : (extents extent_pages : ℕ) (file : List ℕ) → IsTrue (is_shape extents extent_pages) → file ≡ fresh_file extents extent_pages → IsEmptyDatabase extents file
made_empty extents extent_pages file shape is =
    subst (IsEmptyDatabase extents) (sym is) (fresh_is_empty extents extent_pages (fits_extents extents extent_pages shape) (fits_pages extents extent_pages shape) shape)

-- its pages are those that are made of so many extents
made_pages_in : (extents extent_pages : ℕ) (file : List ℕ) (shape : Shape) → IsTrue (is_shape extents extent_pages) → file ≡ fresh_file extents extent_pages → shape.extents ≡ extents
    → pages_in file ≡ made_pages shape.extents
made_pages_in extents extent_pages file shape fits is cap = (made_empty extents extent_pages file fits is).pages ∙ ap made_pages (sym cap)

-- a file that was made is well, where its pages may be served
pub made_well : (extents extent_pages : ℕ) (file : List ℕ) (shape : Shape) → IsTrue (is_shape extents extent_pages) → file ≡ fresh_file extents extent_pages → shape.extents ≡ extents → shape.extent_pages ≡ extent_pages
    → AreServedPages shape (made_pages shape.extents) → IsWell file
made_well extents extent_pages file shape fits is cap size served =
    let states = made_states extents extent_pages file fits is in
    record {
      formed = (made_empty extents extent_pages file fits is).formed;
      shape = shape;
      states = record { extents = states.0 ∙ sym cap; extent_pages = states.1 ∙ sym size };
      served = subst (λ (pages : PageList). AreServedPages shape pages) (sym (made_pages_in extents extent_pages file shape fits is cap)) served;
    }

-- it stands for what its pages do
pub made_stands : (extents extent_pages : ℕ) (file : List ℕ) (shape : Shape) → IsTrue (is_shape extents extent_pages) → file ≡ fresh_file extents extent_pages → StatesExtents file shape
    → PagesStandFor shape (made_pages shape.extents) empty_database → PagesStandFor shape (pages_in file) empty_database
made_stands extents extent_pages file shape fits is states stands =
    let cap : shape.extents ≡ extents = sym states.extents ∙ (made_states extents extent_pages file fits is).0 in
    subst (λ (pages : PageList). PagesStandFor shape pages empty_database) (sym (made_pages_in extents extent_pages file shape fits is cap)) stands

-- each image that a crash leaves of a made file is well
pub made_images : (extents extent_pages : ℕ) (file : File) → ((image : List ℕ) → IsTrue (is_shape extents extent_pages) → image ≡ fresh_file extents extent_pages → IsWell image)
    → IsTrue (is_shape extents extent_pages) → HoldsFresh extents extent_pages file → AreWell file
made_images extents extent_pages file well shape holds = synced_well file holds.synced (well file.bytes shape holds.bytes)
