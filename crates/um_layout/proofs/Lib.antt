-- Where entries stand that are placed by falling size. Powers and Order come first; Stand and Bytes are what stands before an entry, Aligned that each
-- stands at a multiple of its size, and Laid, last, the whole layout.
pub mod Powers
pub mod Order
pub mod Stand
pub mod Bytes
pub mod Aligned
pub mod Laid
