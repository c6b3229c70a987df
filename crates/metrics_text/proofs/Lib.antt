mod Joined
mod LineFeeds
mod ReadBack
